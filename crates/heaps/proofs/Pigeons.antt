-- n numbers below m, no two alike: there are at most m.
use Rattle.std.proofs.Common.{◌≡◌, ℕ, zero, suc, ◌<◌, ◌≤◌, cond, eqb, sym, ◌∙◌, ⊎_elim, arith}
use Rattle.std.proofs.lemmas.Bool.{cases_eq, cond-true, cond-false, eq-eqb, ne_eqb}

below_suc : (a m : ℕ) → a < suc m → (a ≡ m → ⊥) → a < m
below_suc a m lt ne = ⊎_elim (λ (e : a ≡ m). absurd (ne e)) (λ _. omega arith) (cases_eq a m)

pub pigeons : (n m : ℕ) (f : ℕ → ℕ) → ((i : ℕ) → i < n → f i < m) → ((i j : ℕ) → i < n → j < n → f i ≡ f j → i ≡ j) → n ≤ m
pigeons zero m f low apart = omega arith
pigeons (suc n) zero f low apart = let h = low n (omega arith) in absurd (omega arith)
pigeons (suc n) (suc m) f low apart =
    let h : ℕ → ℕ = λ i. cond (eqb (f i) m) (f n) (f i) in
    let moved : (i : ℕ) → f i ≡ m → h i ≡ f n = λ i e. cond-true (eqb (f i) m) (f n) (f i) (eq-eqb (f i) m e) in
    let stays : (i : ℕ) → (f i ≡ m → ⊥) → h i ≡ f i = λ i ne. cond-false (eqb (f i) m) (f n) (f i) (ne_eqb (f i) m ne) in
    let last = low n (omega arith) in
    let below : n ≤ m = pigeons n m h
    (λ i lt. ⊎_elim
    (λ (e : f i ≡ m).
    let ne : f n ≡ m → ⊥ = λ z. let same = apart i n (omega arith) (omega arith) (e ∙ sym z) in omega arith in
    rw (moved i e) (⊎_elim (λ (z : f n ≡ m). absurd (ne z)) (λ (z : f n ≡ m → ⊥). below_suc (f n) m last z) (cases_eq (f n) m)))
    (λ (ne : f i ≡ m → ⊥). rw (stays i ne) (below_suc (f i) m (low i (omega arith)) ne))
    (cases_eq (f i) m))
    (λ i j li lj e. ⊎_elim
    (λ (a : f i ≡ m). ⊎_elim
    (λ (b : f j ≡ m). apart i j (omega arith) (omega arith) (a ∙ sym b))
    (λ (b : f j ≡ m → ⊥). let z = apart n j (omega arith) (omega arith) (sym (moved i a) ∙ e ∙ stays j b) in absurd (omega arith))
    (cases_eq (f j) m))
    (λ (a : f i ≡ m → ⊥). ⊎_elim
    (λ (b : f j ≡ m). let z = apart i n (omega arith) (omega arith) (sym (stays i a) ∙ e ∙ moved j b) in absurd (omega arith))
    (λ (b : f j ≡ m → ⊥). apart i j (omega arith) (omega arith) (sym (stays i a) ∙ e ∙ stays j b))
    (cases_eq (f j) m))
    (cases_eq (f i) m)) in
    omega arith
