-- Marks that are written one unit after another.
use Rattle.std.proofs.Common.{◌≡◌, ℕ, ◌+◌, ◌<◌, ◌≤◌, ◌≢◌, List, length, get_or, set, ◌∙◌, subst, ⊎_elim, arith}
use Rattle.std.proofs.lemmas.List.{get_or-set_same, get_or-set_other}
use Rattle.std.proofs.lemmas.Bool.{cases_lt}

-- the marks below i are as the function f says, and so is the one at i
pub mark_more : (f : ℕ → ℕ) (ms : List ℕ) (i v : ℕ) → i < length ms → v ≡ f i → ((x : ℕ) → x < i → get_or ms x 0 ≡ f x) → (x : ℕ) → x < i + 1 → get_or (set ms i v) x 0 ≡ f x
mark_more f ms i v room here before x lt = ⊎_elim
    (λ (l : x < i). let ne : x ≢ i = omega arith in get_or-set_other ms i x v 0 ne ∙ before x l)
    (λ (past : i ≤ x). let e : i ≡ x = omega arith in subst (λ k. get_or (set ms i v) k 0 ≡ f k) e (get_or-set_same ms i v 0 room ∙ here))
    (cases_lt x i)

-- the marks from i + 1 are as they were
pub mark_past : (ms old : List ℕ) (i v : ℕ) → ((x : ℕ) → i ≤ x → get_or ms x 0 ≡ get_or old x 0) → (x : ℕ) → i + 1 ≤ x → get_or (set ms i v) x 0 ≡ get_or old x 0
mark_past ms old i v before x le = let ne : x ≢ i = omega arith in get_or-set_other ms i x v 0 ne ∙ before x (omega arith)
