use Rattle.plans.proofs.Marking.{MarkedTo}
use Rattle.plans.proofs.plan.Plan.put_marks.Given as goal

abbrev pub invariant-loop-i : goal.invariant-loop-i
invariant-loop-i g l = MarkedTo l.marks l.initial.self l.i l.self
