use Rattle.std.proofs.Common.{take}
use Rattle.std.specs.List.{flat_map}
use Rattle.plans.specs.Model.{code_of}
use Rattle.sheets.specs.Format.{code_field}
use Rattle.writers.specs.Fields.{Wrote}
use Rattle.writers.proofs.pen.Pen.put_codes.Given as goal

abbrev pub invariant-loop-unit : goal.invariant-loop-unit
invariant-loop-unit l = Wrote l.initial.self (flat_map (λ u. code_field l.issue (code_of u)) (take l.unit-index l.units)) l.self
