use Rattle.std.proofs.Common.{eqb, get_or}
use Rattle.contractions.specs.Progress.{Marks}
use Rattle.contractions.proofs.marking.mark_units.Given as goal

abbrev pub invariant-loop-unit : goal.invariant-loop-unit
invariant-loop-unit l = Marks l.unit (λ x. eqb (get_or l.groups.names x 0) l.group) l.marks
