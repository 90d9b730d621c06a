-- What the program prints of a sheet that is not right.
use Rattle.std.specs.Prelude.{◌≡◌, ℕ, List, [], ◌∷◌, ◌++◌}
use Rattle.std.specs.Fmt.{decimal}
use Rattle.refusals.specs.Numbers.{number_of}
use Rattle.weights.specs.declared.weight.Weight.{Ghosts}
use Rattle.sheets.specs.declared.fault.Fault.{Fault}
use Rattle.sheets.specs.Faults.{FirstFault}

-- a line with a number
abbrev pub line : ℕ → List ℕ
line n = decimal n ++ 10 ∷ []

-- bytes with a first fault give one line, the number of its refusal
abbrev pub TellsFault : {W : Type 0} → Ghosts W → List ℕ → List ℕ → Type 0
TellsFault g bs text = (e : Fault) → FirstFault g bs e → text ≡ line (number_of e.refusal)
