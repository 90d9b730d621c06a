-- Codes of a table of units, and whether one bears a code.
use Rattle.std.proofs.Common.{◌≡◌, ℕ, suc, ◌≤◌, Bool, true, false, not, ◌&&◌, ◌||◌, eqb, List, [], ◌∷◌, map, length, take, Decides, sym, refl, ap, ◌∙◌, ⊎_elim, add-one}
use Rattle.std.specs.List.{list_any, enumerate_from}
use Rattle.std.proofs.lemmas.List.{length-map, length-take-le}
use Rattle.std.proofs.lemmas.Bool.{eq-eqb, eqb-true, and_from, and_parts, cases_Bool, both_ways}
use Rattle.plans.specs.declared.plan.Unit.{Unit}
use Rattle.plans.specs.Model.{code_of, same_text, borne_from, borne_by_other}

pub length_codes : (n : ℕ) (us : List Unit) → n ≤ length us → length (map code_of (take n us)) ≡ n
length_codes n us h = length-map (take n us) code_of ∙ length-take-le n us h

pub same_refl : (a : List ℕ) → same_text a a ≡ true
same_refl [] = refl
same_refl (x ∷ xs) = and_from (eqb x x) (same_text xs xs) (eq-eqb x x refl) (same_refl xs)

pub same_eq : (a b : List ℕ) → same_text a b ≡ true → a ≡ b
same_eq [] [] h = refl
same_eq [] (y ∷ ys) h = absurd (both_ways false refl h)
same_eq (x ∷ xs) [] h = absurd (both_ways false refl h)
same_eq (x ∷ xs) (y ∷ ys) h = let p = and_parts (eqb x y) (same_text xs ys) h in let e = eqb-true x y p.0 in let r = same_eq xs ys p.1 in cc

pub same_decides : (a b : List ℕ) (r : Bool) → Decides r (a ≡ b) → same_text a b ≡ r
same_decides a b true h = ap (same_text a) (sym (h.0 refl)) ∙ same_refl a
same_decides a b false h = ⊎_elim (λ (e : same_text a b ≡ true). absurd (both_ways false refl (h.1 (same_eq a b e)))) (λ e. e) (cases_Bool (same_text a b))

-- the search goes through the units by number
pub borne_in : (i but : ℕ) (text : List ℕ) (us : List Unit) → list_any (λ p. not (eqb p.0 but) && same_text (code_of p.1) text) (enumerate_from i us) ≡ borne_from i but text (map code_of us)
borne_in i but text [] = refl
borne_in i but text (u ∷ us) = let e = borne_in (suc i) but text us in simp (add-one, ap (λ b. (not (eqb i but) && same_text (code_of u) text) || b) e)

-- what a search for a bearer says, in the words of the rules
pub bearer_is : (us : List Unit) (n : ℕ) (text held : List ℕ) (r : Bool) → n ≤ length us → held ≡ text → r ≡ borne_by_other n held (map code_of (take n us)) → borne_by_other (length (map code_of (take n us))) text (map code_of (take n us)) ≡ r
bearer_is us n text held r within same is =
    let cs = map code_of (take n us) in
    ap (λ k. borne_by_other k text cs) (length_codes n us within) ∙ (ap (λ t. borne_by_other n t cs) (sym same) ∙ sym is)
