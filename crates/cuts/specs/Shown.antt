-- How a ground and an entry of a record are written.
use Rattle.std.specs.Prelude.{ℕ, List, [], ◌∷◌, ◌++◌}
use Rattle.std.specs.Fmt.{decimal}
use Rattle.cuts.specs.Numbers.{ground_number}
use Rattle.cuts.specs.declared.entry.Entry.{Entry}
use Rattle.cuts.specs.declared.ground.Ground.{Ground}

-- a ground as its number
abbrev pub ground_text : Ground → List ℕ
ground_text why = decimal (ground_number why)

-- an entry as four numbers, with a blank (32) between two: the two groups, the ground and the scan
abbrev pub entry_text : Entry → List ℕ
entry_text e =
    decimal e.low ++ (32 ∷ []) ++ decimal e.high ++ (32 ∷ []) ++ ground_text e.ground ++ (32 ∷ []) ++ decimal e.scan
