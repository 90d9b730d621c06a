use Rattle.std.proofs.Common.{◌≡◌, ℕ, ◌<◌, length, get_or, drop}
use Rattle.plans.specs.declared.plan.Link.{Link}
use Rattle.plans.specs.Marks.{mark_of}
use Rattle.fills.proofs.fill.copy_marks.Given as goal

abbrev pub invariant-loop-i : goal.invariant-loop-i
invariant-loop-i g l =
    ((k : ℕ) → k < l.i → (d : Link g.row.W.Denot) → get_or l.marks k 0 ≡ mark_of (get_or l.links k d))
    × (drop (length l.links) l.marks ≡ drop (length l.links) l.initial.marks)
