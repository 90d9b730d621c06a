-- How many numbers below n pass a test.
use Rattle.std.proofs.Common.{◌≡◌, ℕ, zero, suc, ◌+◌, ◌<◌, ◌≤◌, Bool, true, false, not, ◌&&◌, eqb, ◌⊎◌, sym, refl, ap, ◌∙◌, inl, inr, ⊎_elim, arith}
use Rattle.std.proofs.lemmas.Bool.Decides.{nat_tests}
use Rattle.std.proofs.lemmas.Bool.{cases_eq}
use Rattle.cuts.specs.Groups.{one, count_below}
use Rattle.cuts.proofs.Moves.{least_below}

-- those but w
abbrev pub but : (ℕ → Bool) → ℕ → ℕ → Bool
but P w x = P x && not (eqb x w)

pub count_same : (n : ℕ) (P Q : ℕ → Bool) → ((x : ℕ) → x < n → P x ≡ Q x) → count_below n P ≡ count_below n Q
count_same zero P Q h = refl
count_same (suc n) P Q h =
    let ih = count_same n P Q (λ x l. h x (omega arith)) in
    let e = ap one (h n (omega arith)) in
    omega arith

pub count_all : (n : ℕ) (P : ℕ → Bool) → ((x : ℕ) → x < n → P x ≡ true) → count_below n P ≡ n
count_all zero P h = refl
count_all (suc n) P h = let ih = count_all n P (λ x l. h x (omega arith)) in let e = ap one (h n (omega arith)) in omega arith

pub count_none : (n : ℕ) (P : ℕ → Bool) → ((x : ℕ) → x < n → P x ≡ false) → count_below n P ≡ 0
count_none zero P h = refl
count_none (suc n) P h = let ih = count_none n P (λ x l. h x (omega arith)) in let e = ap one (h n (omega arith)) in omega arith

pub count_but : (n : ℕ) (P : ℕ → Bool) (w : ℕ) → w < n → P w ≡ true → count_below n P ≡ count_below n (but P w) + 1
count_but zero P w l h = absurd (omega arith)
count_but (suc n) P w l h =
    ⊎_elim
    (λ (e : w ≡ n).
    let here : P n ≡ true = ap P (sym e) ∙ h in
    let gone : but P w n ≡ false = grind (arith, nat_tests) in
    let rest = count_same n P (but P w) (λ x k. grind (arith, nat_tests)) in
    let p = ap one here in
    let q = ap one gone in
    omega arith)
    (λ (ne : w ≡ n → ⊥).
    let here : but P w n ≡ P n = grind (arith, nat_tests) in
    let ih = count_but n P w (omega arith) h in
    let p = ap one here in
    omega arith)
    (cases_eq w n)

-- some member is none of two, where there are more than two
pub one_more : (n : ℕ) (P : ℕ → Bool) (u v : ℕ) → u < n → v < n → P u ≡ true → P v ≡ true → (u ≡ v → ⊥) → 2 < count_below n P → (w : ℕ) × (w < n) × (P w ≡ true) × (w ≡ u → ⊥) × (w ≡ v → ⊥)
one_more n P u v lu lv pu pv apart many =
    ⊎_elim
    (λ r. let w = r.0 in let h = r.2 in (w, r.1, grind (arith, nat_tests), grind (arith, nat_tests), grind (arith, nat_tests)))
    (λ none.
    let a = count_but n P u lu pu in
    let b = count_but n (but P u) v lv (grind (arith, nat_tests)) in
    let c = count_none n (but (but P u) v) none in
    absurd (omega arith))
    (least_below n (but (but P u) v))

-- some member is not g, where there are more than one
pub another : (n : ℕ) (P : ℕ → Bool) (g : ℕ) → g < n → P g ≡ true → 1 < count_below n P → (w : ℕ) × (w < n) × (P w ≡ true) × (w ≡ g → ⊥)
another n P g lg pg many =
    ⊎_elim
    (λ r. let w = r.0 in let h = r.2 in (w, r.1, grind (arith, nat_tests), grind (arith, nat_tests)))
    (λ none. let a = count_but n P g lg pg in let c = count_none n (but P g) none in absurd (omega arith))
    (least_below n (but P g))

-- where there are at most two, each is one of them
pub two_left : (n : ℕ) (P : ℕ → Bool) (a b : ℕ) → a < n → b < n → P a ≡ true → P b ≡ true → (a ≡ b → ⊥) → count_below n P ≤ 2 → (g : ℕ) → g < n → P g ≡ true → (g ≡ a) ⊎ (g ≡ b)
two_left n P a b la lb pa pb apart few g lg pg =
    ⊎_elim inl
    (λ (ga : g ≡ a → ⊥). ⊎_elim inr
    (λ (gb : g ≡ b → ⊥).
    let c = count_but n P a la pa in
    let d = count_but n (but P a) b lb (grind (arith, nat_tests)) in
    let e = count_but n (but (but P a) b) g lg (grind (arith, nat_tests)) in
    absurd (omega arith))
    (cases_eq g b))
    (cases_eq g a)
