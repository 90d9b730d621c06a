use Rattle.std.proofs.Common.{◌≡◌, ℕ}
use Rattle.sheets.specs.declared.fault.Part.TheVariants as part
use Rattle.sheets.specs.Fields.{number_place}
use Rattle.readers.proofs.Weighing.{Numbering}
use Rattle.readers.proofs.parts.read_numbers.Given as goal

abbrev pub invariant-loop-part : goal.invariant-loop-part
invariant-loop-part g l =
    (l.cursor.part ≡ l.initial.cursor.part)
    × ((k : ℕ) → l.initial.cursor.part ≡ part.Link k → l.initial.cursor.at ≡ number_place g.W.Weight l.initial.cursor.bytes.now k 0
    → Numbering g.W.Weight l.initial.cursor.bytes.now k l.part-index l.cursor l.part-items)
