-- The groups below a number are put, one more each time.
use Rattle.std.proofs.Common.{◌≡◌, ℕ, ◌+◌, ◌<◌, Bool, true, ◌&&◌, ltb, List, length, set, Some, None, Option, sym, refl, ap, ◌∙◌, arith}
use Rattle.std.proofs.lemmas.Bool.Decides.{nat_tests}
use Rattle.std.proofs.lemmas.Bool.{cond-true}
use Rattle.queues.specs.Keys.{Becomes}
use Rattle.scans.specs.Waits.{Waits, Marks}
use Rattle.scans.proofs.Waiting.{waits_change, mark}

-- those of p below g
abbrev pub below : (ℕ → Bool) → ℕ → ℕ → Bool
below p g x = ltb x g && p x

below_apart : (p : ℕ → Bool) (g x : ℕ) → (x ≡ g → ⊥) → below p g x ≡ below p (g + 1) x
below_apart p g x ne = grind (arith, nat_tests)

below_more : (p : ℕ → Bool) (g : ℕ) → p g ≡ true → below p (g + 1) g ≡ true
below_more p g h = grind (arith, nat_tests)

pub filled_more : {W V : Type 0} {value : W → V} {zero : V} (p : ℕ → Bool) {before after : ℕ → Option W} (g : ℕ) (k : W) → p g ≡ true → value k ≡ zero → Becomes before after g (Some k)
    → Waits value before (below p g) (λ _. zero) → Waits value after (below p (g + 1)) (λ _. zero)
filled_more {zero = zero} p g k h is becomes waits =
    waits_change waits g (Some k) becomes (ap Some is ∙ sym (cond-true (below p (g + 1) g) (Some zero) None (below_more p g h))) (below_apart p g) (λ x _. refl)

pub marked_more : {marks : List Bool} (p : ℕ → Bool) (g : ℕ) → g < length marks → p g ≡ true → Marks marks (below p g) → Marks (set marks g true) (below p (g + 1))
marked_more p g room h marked = mark marked g true room (sym (below_more p g h)) (below_apart p g)
