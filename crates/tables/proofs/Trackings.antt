-- How the arrays of the groups follow the mergers.
use Rattle.std.proofs.Common.{◌≡◌, ℕ, ◌+◌, ◌-◌, ◌<◌, ◌≤◌, Bool, true, false, cond, not, ◌&&◌, eqb, List, [], ◌∷◌, ◌++◌, length, get_or, set, take, sym, refl, ap, ◌∙◌, subst, ⊎_elim, arith, length-append, length-take}
use Rattle.std.proofs.lemmas.List.{get_or-set_other, get_or-set_same, get_or_past, length-set, get_or_append_left, get_or-take}
use Rattle.std.proofs.lemmas.Bool.{cases_eq, cases_lt}
use Rattle.std.proofs.lemmas.Bool.Decides.{nat_tests}
use Rattle.cuts.specs.declared.entry.Entry.{Entry}
use Rattle.cuts.specs.Groups.{after, stands, Joins}
use Rattle.cuts.proofs.Names.{named, stands_more, after_more}

pub get_d_false : (xs : List Bool) (i j : ℕ) → get_or (set xs i false) j false ≡ (get_or xs j false && not (eqb j i))
get_d_false xs i j =
    ⊎_elim
    (λ (e : j ≡ i). ⊎_elim
    (λ (within : i < length xs). subst (λ k. get_or (set xs i false) k false ≡ (get_or xs k false && not (eqb k i))) (sym e) (get_or-set_same xs i false false within ∙ here (get_or xs i false) i))
    (λ (past : length xs ≤ i). let out = get_or_past (set xs i false) j false (simp length-set (omega arith)) in let was = get_or_past xs j false (omega arith) in out ∙ sym (ap (λ b. b && not (eqb j i)) was))
    (cases_lt i (length xs)))
    (λ (ne : j ≡ i → ⊥). get_or-set_other xs i j false false ne ∙ other (get_or xs j false) j i ne)
    (cases_eq j i)
  where
    here : (b : Bool) (i : ℕ) → false ≡ (b && not (eqb i i))
    here b i = grind (arith, nat_tests)

    other : (b : Bool) (j i : ℕ) → (j ≡ i → ⊥) → b ≡ (b && not (eqb j i))
    other b j i ne = grind (arith, nat_tests)

-- one more merger: what stands, and the names
module _ (n : ℕ) (es : List Entry) (e : Entry) (joins : Joins n [] es) (low : stands n es e.low ≡ true) (high : stands n es e.high ≡ true) (less : e.low < e.high) where
  pub standing_more : (standing : List Bool) → ((u : ℕ) → u < n → get_or standing u false ≡ stands n es u) → (u : ℕ) → u < n → get_or (set standing e.high false) u false ≡ stands n (es ++ (e ∷ [])) u
  standing_more standing was u lt = get_d_false standing e.high u ∙ ap (λ b. b && not (eqb u e.high)) (was u lt) ∙ sym (stands_more n es e (named n es joins) low high less u)

  pub names_more : (old new : List ℕ) → ((x : ℕ) → x < n → get_or old x 0 ≡ after es x) → ((x : ℕ) → x < n → get_or new x 0 ≡ cond (eqb (get_or old x 0) e.high) e.low (get_or old x 0)) → (x : ℕ) → x < n → get_or new x 0 ≡ after (es ++ (e ∷ [])) x
  names_more old new was renamed x lt = renamed x lt ∙ ap (λ k. cond (eqb k e.high) e.low k) (was x lt) ∙ sym (after_more es e x)

  pub left_more : (left : ℕ) → left + length es ≡ n → 0 < left → (left - 1) + length (es ++ (e ∷ [])) ≡ n
  left_more left count some = let h = length-append es (e ∷ []) in omega arith

-- names of which the first n are renamed
pub renamed_part : (old part rest : List ℕ) (n low high l h : ℕ) → l ≡ low → h ≡ high → n ≤ length old → length part ≡ length (take n old) → ((x : ℕ) → x < length (take n old) → get_or part x 0 ≡ cond (eqb (get_or (take n old) x 0) high) low (get_or (take n old) x 0)) → (x : ℕ) → x < n → get_or (part ++ rest) x 0 ≡ cond (eqb (get_or old x 0) h) l (get_or old x 0)
renamed_part old part rest n low high l h is-low is-high fits same renamed x lt =
    let size : length (take n old) ≡ n = grind (arith, length-take) in
    rw (is-low, is-high, get_or_append_left part rest 0 x (omega (arith, same, size)), renamed x (omega (arith, size)), get_or-take n old x 0 lt) refl
