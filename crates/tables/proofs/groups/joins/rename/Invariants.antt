use Rattle.std.proofs.Common.{◌≡◌, ℕ, ◌<◌, ◌≤◌, cond, eqb, get_or}
use Rattle.tables.proofs.groups.joins.rename.Given as goal

abbrev pub invariant-loop-name : goal.invariant-loop-name
invariant-loop-name l =
    ((x : ℕ) → x < l.name-index → get_or l.name-items x 0 ≡ cond (eqb (get_or l.initial.name-items x 0) l.high) l.low (get_or l.initial.name-items x 0))
    × ((x : ℕ) → l.name-index ≤ x → get_or l.name-items x 0 ≡ get_or l.initial.name-items x 0)
