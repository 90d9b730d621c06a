use Rattle.std.proofs.Common.{◌≡◌, ◌+◌, ◌≤◌, drop}
use Rattle.plans.specs.Divided.{marks_count}
use Rattle.plans.proofs.plan.weighs.marked_count.Given as goal

abbrev pub invariant-loop-mark : goal.invariant-loop-mark
invariant-loop-mark l =
    (l.count ≤ l.mark-index)
    × (l.count + marks_count (drop l.mark-index l.marks) ≡ marks_count l.marks)
