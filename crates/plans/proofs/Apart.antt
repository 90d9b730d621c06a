-- Codes stay distinct, and the codes after a change of one unit.
use Rattle.std.proofs.Common.{◌≡◌, ℕ, zero, suc, ◌+◌, ◌<◌, ◌≤◌, false, not, eqb, List, [], ◌∷◌, ◌++◌, map, length, get_or, take, set, sym, refl, ap, ◌∙◌, subst, ⊎_elim, arith}
use lib.Seq.{get_or-append_seam}
use Rattle.std.proofs.lemmas.List.{map-append, map-set, take_more_set, get_or_append_left, get_or-set_same, get_or-set_other, length-set, length-append}
use Rattle.std.proofs.lemmas.Bool.{ne_eqb, and_from, or_parts, both_ways, cases_lt, cases_eq}
use Rattle.plans.specs.declared.plan.Unit.{Unit}
use Rattle.plans.specs.Model.{code_of, same_text, borne_from, borne_by_other}
use Rattle.plans.specs.Sound.{Distinct}
use Rattle.plans.proofs.Bearing.{same_refl}

-- where no other unit bears the code, no other code is the same
pub unborne : (text : List ℕ) (cs : List (List ℕ)) (i k : ℕ) → borne_from i k text cs ≡ false → (j : ℕ) → j < length cs → (i + j ≡ k → ⊥) → get_or cs j [] ≡ text → ⊥
unborne text [] i k h j lt ne e = absurd (omega arith)
unborne text (c ∷ cs) i k h zero lt ne e =
    let differ : i ≡ k → ⊥ = λ p. ne (omega arith) in
    both_ways _ (or_parts _ _ h).0 (and_from (not (eqb i k)) (same_text c text) (ap not (ne_eqb i k differ)) (ap (λ t. same_text c t) (sym e) ∙ same_refl c))
unborne text (c ∷ cs) i k h (suc j) lt ne e = unborne text cs (suc i) k (or_parts _ _ h).1 j (omega arith) (λ p. ne (omega arith)) e

pub distinct_more : (text : List ℕ) (cs : List (List ℕ)) → Distinct cs → borne_by_other (length cs) text cs ≡ false → Distinct (cs ++ (text ∷ []))
distinct_more text cs d h i j li lj e =
    let n = length cs in
    let size : length (cs ++ (text ∷ [])) ≡ n + 1 = length-append cs (text ∷ []) in
    let old : (a : ℕ) → a < n → get_or (cs ++ (text ∷ [])) a [] ≡ get_or cs a [] = λ a l. get_or_append_left cs (text ∷ []) [] a l in
    let last : (a : ℕ) → n ≡ a → get_or (cs ++ (text ∷ [])) a [] ≡ text = λ a p. subst (λ b. get_or (cs ++ (text ∷ [])) b [] ≡ text) p (get_or-append_seam cs text [] []) in
    let clash : (a b : ℕ) → a < n → n ≡ b → get_or (cs ++ (text ∷ [])) a [] ≡ get_or (cs ++ (text ∷ [])) b [] → ⊥ = λ a b l p q. unborne text cs 0 n h a l (λ z. omega arith) (sym (old a l) ∙ (q ∙ last b p)) in
    ⊎_elim
    (λ (l : i < n). ⊎_elim (λ (m : j < n). d i j l m (sym (old i l) ∙ (e ∙ old j m))) (λ (m : n ≤ j). absurd (clash i j l (omega arith) e)) (cases_lt j n))
    (λ (l : n ≤ i). ⊎_elim (λ (m : j < n). absurd (clash j i m (omega arith) (sym e))) (λ (m : n ≤ j). omega arith) (cases_lt j n))
    (cases_lt i n)

pub distinct_set : (text : List ℕ) (cs : List (List ℕ)) (k : ℕ) → k < length cs → Distinct cs → borne_by_other k text cs ≡ false → Distinct (set cs k text)
distinct_set text cs k lk d h i j li lj e =
    let size = length-set cs k text in
    let here : (a : ℕ) → k ≡ a → get_or (set cs k text) a [] ≡ text = λ a p. subst (λ b. get_or (set cs k text) b [] ≡ text) p (get_or-set_same cs k text [] lk) in
    let old : (a : ℕ) → (a ≡ k → ⊥) → get_or (set cs k text) a [] ≡ get_or cs a [] = λ a ne. get_or-set_other cs k a text [] ne in
    let clash : (a b : ℕ) → a < length cs → (a ≡ k → ⊥) → k ≡ b → get_or (set cs k text) a [] ≡ get_or (set cs k text) b [] → ⊥ = λ a b l ne p q. unborne text cs 0 k h a l (λ z. ne (omega arith)) (sym (old a ne) ∙ (q ∙ here b p)) in
    let li' : i < length cs = omega arith in
    let lj' : j < length cs = omega arith in
    ⊎_elim
    (λ (p : i ≡ k). ⊎_elim (λ (q : j ≡ k). omega arith) (λ (q : j ≡ k → ⊥). absurd (clash j i lj' q (sym p) (sym e))) (cases_eq j k))
    (λ (p : i ≡ k → ⊥). ⊎_elim (λ (q : j ≡ k). absurd (clash i j li' p (sym q) e)) (λ (q : j ≡ k → ⊥). d i j li' lj' (sym (old i p) ∙ (e ∙ old j q))) (cases_eq j k))
    (cases_eq i k)

pub take_of_set : {X : Type 0} (n : ℕ) (xs : List X) (k : ℕ) (y : X) → take n (set xs k y) ≡ set (take n xs) k y
take_of_set zero xs k y = refl
take_of_set (suc n) [] k y = refl
take_of_set (suc n) (x ∷ xs) zero y = refl
take_of_set (suc n) (x ∷ xs) (suc k) y = ap (λ ys. x ∷ ys) (take_of_set n xs k y)

-- the codes with one unit more
pub codes_more : (us : List Unit) (n : ℕ) (u : Unit) (text : List ℕ) → n < length us → code_of u ≡ text → map code_of (take (n + 1) (set us n u)) ≡ map code_of (take n us) ++ (text ∷ [])
codes_more us n u text room is = ap (map code_of) (take_more_set us n u room) ∙ (map-append code_of (take n us) (u ∷ []) ∙ ap (λ t. map code_of (take n us) ++ (t ∷ [])) is)

-- the codes with one unit changed, whatever its number
pub codes_set_any : (us : List Unit) (n k : ℕ) (u : Unit) (text : List ℕ) → code_of u ≡ text → map code_of (take n (set us k u)) ≡ set (map code_of (take n us)) k text
codes_set_any us n k u text is = ap (map code_of) (take_of_set n us k u) ∙ (map-set code_of (take n us) k u ∙ ap (set (map code_of (take n us)) k) is)

-- the same of one of the first n units
pub codes_set : (us : List Unit) (n k : ℕ) (u : Unit) (text : List ℕ) → k < n → code_of u ≡ text → map code_of (take n (set us k u)) ≡ set (map code_of (take n us)) k text
codes_set us n k u text in-it is = codes_set_any us n k u text is
