use Rattle.sheets.specs.Format.{fours}
use Rattle.writers.specs.Fields.{Wrote}
use Rattle.writers.proofs.pen.Pen.put_weight.Given as goal

abbrev pub invariant-loop-i : goal.invariant-loop-i
invariant-loop-i g l = Wrote l.initial.self (fours (g.W.Weight.nth (g.W.Weight.value l.weight)) l.i) l.self
