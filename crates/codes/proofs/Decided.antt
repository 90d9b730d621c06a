-- The test of a code answers true exactly where the rule holds.
use Rattle.std.proofs.Common.{◌≡◌, ℕ, zero, suc, ◌+◌, ◌<◌, ◌≤◌, true, ◌||◌, eqb, leb, ◌⊎◌, List, [], ◌∷◌, length, get_or, Decides, sym, refl, ap, ◌∙◌, add-zero, add-suc, suc-add, zero-add, arith}
use Rattle.std.proofs.lemmas.Bool.{and_from, and_parts, leb-true, le-leb}
use Rattle.std.proofs.lemmas.Bool.Decides.{Decides-and, Decides-or, Decides-eqb}
use Rattle.codes.specs.Code.{First, Later, Code, is_first, is_later, fits_at, fits_from, is_code}

first : (c : ℕ) → Decides (is_first c) (First c)
first c =
    Decides-or _ _ (Decides-eqb c 80) (Decides-or _ _ (Decides-eqb c 67) (Decides-or _ _ (Decides-eqb c 66) (Decides-eqb c 85)))

at_most : (a b : ℕ) → Decides (leb a b) (a ≤ b)
at_most a b = (leb-true a b, le-leb a b)

later : (c : ℕ) → Decides (is_later c) (Later c)
later c =
    Decides-or _ _ (Decides-and _ _ (at_most 65 c) (at_most c 90)) (Decides-and _ _ (at_most 48 c) (at_most c 57))

size : (cs : List ℕ) → Decides (eqb (length cs) 6 || eqb (length cs) 7) ((length cs ≡ 6) ⊎ (length cs ≡ 7))
size cs = Decides-or _ _ (Decides-eqb (length cs) 6) (Decides-eqb (length cs) 7)

-- every character fits its position, where the first stands at n
Fit : ℕ → List ℕ → Type 0
Fit n cs = (i : ℕ) → i < length cs → fits_at (n + i) (get_or cs i 0) ≡ true

places : (n : ℕ) (cs : List ℕ) → fits_from n cs ≡ true → Fit n cs
unfolding Fit
places n [] e i h = absurd (omega arith)
places n (c ∷ cs) e zero h = ap (λ k. fits_at k c) (add-zero n) ∙ (and_parts _ _ e).0
places n (c ∷ cs) e (suc i) h =
    ap (λ k. fits_at k (get_or cs i 0)) (add-suc n i ∙ sym (suc-add n i)) ∙ places (suc n) cs (and_parts _ _ e).1 i (omega arith)

from_places : (n : ℕ) (cs : List ℕ) → Fit n cs → fits_from n cs ≡ true
unfolding Fit
from_places n [] f = refl
from_places n (c ∷ cs) f =
    and_from _ _
    (ap (λ k. fits_at k c) (sym (add-zero n)) ∙ f 0 (omega arith))
    (from_places (suc n) cs (λ i h. ap (λ k. fits_at k (get_or cs i 0)) (suc-add n i ∙ sym (add-suc n i)) ∙ f (suc i) (omega arith)))

later_at : (i c : ℕ) → 0 < i → fits_at i c ≡ is_later c
later_at zero c h = absurd (omega arith)
later_at (suc i) c h = refl

holds : (cs : List ℕ) → is_code cs ≡ true → Code cs
unfolding Fit
holds cs e =
    let p = and_parts _ _ e in
    let s = (size cs).0 p.0 in
    let f : (i : ℕ) → i < length cs → fits_at i (get_or cs i 0) ≡ true = λ i h. ap (λ k. fits_at k (get_or cs i 0)) (sym (zero-add i)) ∙ places 0 cs p.1 i h in
    record {
      size = s;
      first = (first (get_or cs 0 0)).0 (f 0 (grind arith));
      later = λ i h k. (later (get_or cs i 0)).0 (sym (later_at i (get_or cs i 0) h) ∙ f i k);
    }

fits_at_lem : (cs : List ℕ) → Code cs → (i : ℕ) → i < length cs → fits_at i (get_or cs i 0) ≡ true
fits_at_lem cs r zero h = (first (get_or cs 0 0)).1 r.first
fits_at_lem cs r (suc i) h = (later (get_or cs (suc i) 0)).1 (r.later (suc i) (omega arith) h)

tells : (cs : List ℕ) → Code cs → is_code cs ≡ true
unfolding Fit
tells cs r =
    and_from _ _ ((size cs).1 r.size) (from_places 0 cs (λ i h. ap (λ k. fits_at k (get_or cs i 0)) (zero-add i) ∙ fits_at_lem cs r i h))

pub decides_code : (cs : List ℕ) → Decides (is_code cs) (Code cs)
decides_code cs = (holds cs, tells cs)
