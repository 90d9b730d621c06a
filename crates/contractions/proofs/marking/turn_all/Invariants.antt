use Rattle.std.proofs.Common.{◌≡◌, ℕ, ◌<◌, ◌≤◌, cond, eqb, get_or}
use Rattle.contractions.proofs.marking.turn_all.Given as goal

abbrev pub invariant-loop-mark : goal.invariant-loop-mark
invariant-loop-mark l =
    ((x : ℕ) → x < l.mark-index → get_or l.mark-items x 0 ≡ cond (eqb (get_or l.initial.mark-items x 0) 0) 1 0)
    × ((x : ℕ) → l.mark-index ≤ x → get_or l.mark-items x 0 ≡ get_or l.initial.mark-items x 0)
