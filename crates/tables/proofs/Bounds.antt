-- Lists of which every entry keeps a bound, or has a property.
use Rattle.std.proofs.Common.{◌≡◌, ℕ, ◌+◌, ◌<◌, ◌≤◌, ◌≢◌, List, length, get_or, set, replicate, sym, subst, ⊎_elim, arith}
use Rattle.std.proofs.lemmas.List.{get_or-set_other, get_or_past, get_or-set_same, get_or-replicate, length-set, length-replicate}
use Rattle.std.proofs.lemmas.Bool.{cases_eq, cases_lt}

-- each of the first n entries is below b
abbrev pub Below : List ℕ → ℕ → ℕ → Type 0
Below xs n b = (x : ℕ) → x < n → get_or xs x 0 < b

pub below_set : (xs : List ℕ) (n b i v : ℕ) → v < b → Below xs n b → Below (set xs i v) n b
below_set xs n b i v small h x lt = ⊎_elim
    (λ (e : x ≡ i). ⊎_elim
    (λ (within : i < length xs). subst (λ k. get_or (set xs i v) k 0 < b) (sym e) (rw (get_or-set_same xs i v 0 within) small))
    (λ (past : length xs ≤ i). rw (get_or_past (set xs i v) x 0 (simp length-set (omega arith))) (omega arith))
    (cases_lt i (length xs)))
    (λ (ne : x ≡ i → ⊥). rw (get_or-set_other xs i x v 0 ne) (h x lt))
    (cases_eq x i)

pub zeros_below : (m n : ℕ) → Below (replicate m 0) n n
zeros_below m n x lt = ⊎_elim
    (λ (within : x < m). rw (get_or-replicate {A = ℕ} m x 0 0 within) (omega arith))
    (λ (past : m ≤ x). rw (get_or_past {X = ℕ} (replicate m 0) x 0 (simp length-replicate past)) (omega arith))
    (cases_lt x m)

-- one entry more has a property
pub every_more : {X : Type 0} (P : X → Type 0) (xs : List X) (d v : X) (n : ℕ) → n < length xs → P v → ((k : ℕ) → k < n → P (get_or xs k d)) → (k : ℕ) → k < n + 1 → P (get_or (set xs n v) k d)
every_more P xs d v n room here before k lt = ⊎_elim
    (λ (l : k < n). let ne : k ≢ n = omega arith in rw (get_or-set_other xs n k v d ne) (before k l))
    (λ (past : n ≤ k). let e : n ≡ k = omega arith in subst (λ i. P (get_or (set xs n v) i d)) e (rw (get_or-set_same xs n v d room) here))
    (cases_lt k n)
