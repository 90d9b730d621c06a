-- The table of one link more.
use Rattle.std.proofs.Common.{◌≡◌, ℕ, ◌+◌, ◌*◌, ◌<◌, ◌≤◌, Bool, true, false, cond, ◌&&◌, ◌||◌, eqb, ◌⊎◌, List, [], ◌∷◌, ◌++◌, length, drop, set, sym, refl, ap, ◌∙◌, subst, subst₂, inl, inr, ⊎_elim, arith, length-set}
use Rattle.std.proofs.lemmas.Bool.{cases_eq, cases_Bool, cond-true, cond-false, and_parts, or_from, eqb-true}
use Rattle.std.proofs.lemmas.Bool.Decides.{nat_tests}
use Rattle.weights.specs.Laws.{limit}
use Rattle.weights.specs.declared.weight.Weight.{Ghosts}
use Rattle.cuts.specs.Kinds.{Kind, Lawful, kind_of}
use Rattle.cuts.specs.Links.{Link, sum, Ends, Sound}
use Rattle.cuts.specs.Divisions.{only, differ}
use Rattle.cuts.specs.Groups.{degree, joint}
use Rattle.cuts.proofs.Facts.{joint_sym}
use Rattle.cuts.proofs.Fills.{sum_more, next_fits}
use Rattle.cuts.proofs.Names.{stands_from, stands_less}
use Rattle.tables.specs.Meaning.{at, Holds}
use Rattle.tables.proofs.Places.{at_same, at_other, rest_set}

-- the last link joins units of the plan
pub ends_last : {V : Type 0} (n : ℕ) (ps : List (Link V)) (l : Link V) → Ends n (ps ++ (l ∷ [])) → (l.first < n) × (l.second < n)
unfolding Ends
ends_last n [] l e = (e.0, e.1)
ends_last n (p ∷ ps) l e = ends_last n ps l e.2

sum_out : {V : Type 0} (K : Kind V) (test : ℕ → ℕ → Bool) (ps : List (Link V)) (l : Link V) → l.in_service ≡ false → sum K test (ps ++ (l ∷ [])) ≡ sum K test ps
unfolding sum
sum_out K test [] l out = ap (λ b. cond (b && test l.first l.second) (K.plus l.weight K.nothing) K.nothing) out
sum_out K test (p ∷ ps) l out = ap (λ s. cond (p.in_service && test p.first p.second) (K.plus p.weight s) s) (sum_out K test ps l out)

-- a link out of service changes no entry
pub holds_out : {W : Type 0} (g : Ghosts W) (n : ℕ) (ls : List (Link g.Value)) (l : Link g.Value) (table : List W) → l.in_service ≡ false → Holds g n ls [] table → Holds g n (ls ++ (l ∷ [])) [] table
holds_out g n ls l table out holds = record {
  joints = λ u v su sv apart. holds.joints u v su sv apart ∙ sym (sum_out (kind_of g) _ ls l out);
  degrees = λ u su. holds.degrees u su ∙ sym (sum_out (kind_of g) _ ls l out);
}

module _ {V : Type 0} (K : Kind V) (laws : Lawful K) (n : ℕ) (ls : List (Link V)) (l : Link V) (sound : Sound K n (ls ++ (l ∷ []))) (on : l.in_service ≡ true) (test : ℕ → ℕ → Bool) where
  more : sum K test (ls ++ (l ∷ [])) ≡ cond (test l.first l.second) (K.plus (sum K test ls) l.weight) (sum K test ls)
  more = let light = sound.light in sum_more K laws test ls l (omega arith) ∙ ap (λ b. cond (b && test l.first l.second) (K.plus (sum K test ls) l.weight) (sum K test ls)) on

  -- a sum grows by the link where its ends pass the test, and stays where they do not
  pub sum_with : test l.first l.second ≡ true → sum K test (ls ++ (l ∷ [])) ≡ K.plus (sum K test ls) l.weight
  sum_with here = more ∙ cond-true _ _ _ here

  pub sum_without : test l.first l.second ≡ false → sum K test (ls ++ (l ∷ [])) ≡ sum K test ls
  sum_without away = more ∙ cond-false _ _ _ away

cases_two : (a c b d : ℕ) → ((a ≡ c) × (b ≡ d)) ⊎ ((a ≡ c) × (b ≡ d) → ⊥)
cases_two a c b d = ⊎_elim (λ p. ⊎_elim (λ q. inl (p, q)) (λ q. inr (λ e. q e.1)) (cases_eq b d)) (λ p. inr (λ e. p e.0)) (cases_eq a c)

-- which pairs and which units the link between a and b is at
at_pair : (a b : ℕ) → ((eqb a a && eqb b b) || (eqb a b && eqb b a)) ≡ true
at_pair a b = grind (arith, nat_tests)

not_both : (a b u v : ℕ) → ((u ≡ a) × (v ≡ b) → ⊥) → (eqb a u && eqb b v) ≡ false
not_both a b u v away =
    ⊎_elim (λ h. let parts = and_parts (eqb a u) (eqb b v) h in absurd (away (sym (eqb-true a u parts.0), sym (eqb-true b v parts.1)))) (λ h. h) (cases_Bool (eqb a u && eqb b v))

at_no_pair : (a b u v : ℕ) → ((u ≡ a) × (v ≡ b) → ⊥) → ((u ≡ b) × (v ≡ a) → ⊥) → ((eqb a u && eqb b v) || (eqb a v && eqb b u)) ≡ false
at_no_pair a b u v away turned = or_from _ _ (not_both a b u v away) (not_both a b v u (λ e. turned (e.1, e.0)))

at_first : (a b : ℕ) → (a ≡ b → ⊥) → differ (only a a) (only a b) ≡ true
at_first a b apart = grind (arith, nat_tests)

at_second : (a b : ℕ) → (a ≡ b → ⊥) → differ (only b a) (only b b) ≡ true
at_second a b apart = grind (arith, nat_tests)

at_neither : (a b u : ℕ) → (u ≡ a → ⊥) → (u ≡ b → ⊥) → differ (only u a) (only u b) ≡ false
at_neither a b u p q = grind (arith, nat_tests)

-- the links with one more in service
abbrev pub linked : {V : Type 0} → List (Link V) → ℕ → ℕ → V → List (Link V)
linked ls a b w = ls ++ (record { first = a; second = b; in_service = true; weight = w } ∷ [])

-- a table of some links, to which one more can be added
abbrev pub Fillable : {W : Type 0} (g : Ghosts W) → ℕ → ℕ → ℕ → W → List W → Type 0
Fillable g n a b weight table = (ls : List (Link g.Value)) × Holds g n ls [] table × Sound (kind_of g) n (linked ls a b (g.value weight))

module _ {W : Type 0} (g : Ghosts W) (table : List W) (n a b : ℕ) (weight : W) (held : Fillable g n a b weight table) where
  pub ends_below : (a < n) × (b < n)
  ends_below = ends_last n held.0 _ held.2.ends

module _ {W : Type 0} (g : Ghosts W) (laws : Lawful (kind_of g)) (table : List W) (n : ℕ) (ls : List (Link g.Value)) (next : Link g.Value) (holds : Holds g n ls [] table) (sound : Sound (kind_of g) n (ls ++ (next ∷ []))) (on : next.in_service ≡ true) where
  -- the weight of the next link can be added to an entry that is a sum over the links
  sum_fits : (test : ℕ → ℕ → Bool) (v : g.Value) → v ≡ sum (kind_of g) test ls → g.size v + g.size next.weight ≤ limit
  sum_fits test v is = subst (λ v. g.size v + g.size next.weight ≤ limit) (sym is) (next_fits (kind_of g) laws test n ls [] next sound on)

  -- and so to any
  pub entry_fits : (row column : ℕ) → row < n → column < n → g.size (at g table n row column) + g.size next.weight ≤ limit
  entry_fits row column lr lc = ⊎_elim
      (λ (e : row ≡ column). subst (λ c. g.size (at g table n row c) + g.size next.weight ≤ limit) e (sum_fits _ _ (holds.degrees row (stands_from n [] row lr refl))))
      (λ (apart : row ≡ column → ⊥). sum_fits _ _ (holds.joints row column (stands_from n [] row lr refl) (stands_from n [] column lc refl) apart))
      (cases_eq row column)

module _ {W : Type 0} (g : Ghosts W) (laws : Lawful (kind_of g)) (table : List W) (n a b : ℕ) (weight : W) (la : a < n) (lb : b < n) (ls : List (Link g.Value)) (holds : Holds g n ls [] table) (sound : Sound (kind_of g) n (linked ls a b (g.value weight))) where
  pub joint_fits : (a ≡ b → ⊥) → g.size (at g table n a b) + g.size (g.value weight) ≤ limit
  joint_fits apart = entry_fits g laws table n ls _ holds sound refl a b la lb

  pub degree_fits : (u : ℕ) → u < n → g.size (at g table n u u) + g.size (g.value weight) ≤ limit
  degree_fits u lu = entry_fits g laws table n ls _ holds sound refl u u lu lu

-- the table with the entry of a and b and both degrees written
abbrev pub filled : {W : Type 0} → List W → ℕ → ℕ → ℕ → W → W → W → List W
filled table n a b joint at_a at_b = set (set (set (set table (a * n + b) joint) (b * n + a) joint) (a * n + a) at_a) (b * n + b) at_b

pub filled_rest : {W : Type 0} (g : Ghosts W) (table : List W) (n a b : ℕ) (both at_a at_b : W) → a < n → b < n → drop (n * n) (filled table n a b both at_a at_b) ≡ drop (n * n) table
filled_rest g table n a b both at_a at_b la lb = rest_set g _ n b b at_b lb lb ∙ rest_set g _ n a a at_a la la ∙ rest_set g _ n b a both lb la ∙ rest_set g table n a b both la lb

module _ {W : Type 0} (g : Ghosts W) (laws : Lawful (kind_of g)) (table : List W) (n a b : ℕ) (weight both at_a at_b : W) (apart : a ≡ b → ⊥) (la : a < n) (lb : b < n) (size : n * n ≤ length table) where
  -- entries that are not written, off and on the diagonal
  off : (u v : ℕ) → v < n → (u ≡ v → ⊥) → at g (filled table n a b both at_a at_b) n u v ≡ at g (set (set table (a * n + b) both) (b * n + a) both) n u v
  off u v lv ne = at_other g _ n b b at_b u v lv lb (λ e. ne (e.0 ∙ sym e.1)) ∙ at_other g _ n a a at_a u v lv la (λ e. ne (e.0 ∙ sym e.1))

  elsewhere : (u v : ℕ) → v < n → (u ≡ v → ⊥) → ((u ≡ a) × (v ≡ b) → ⊥) → ((u ≡ b) × (v ≡ a) → ⊥) → at g (filled table n a b both at_a at_b) n u v ≡ at g table n u v
  elsewhere u v lv ne away turned = off u v lv ne ∙ at_other g _ n b a both u v lv la turned ∙ at_other g table n a b both u v lv lb away

  diagonal : (u : ℕ) → u < n → at g (set (set table (a * n + b) both) (b * n + a) both) n u u ≡ at g table n u u
  diagonal u lu = at_other g _ n b a both u u lu la (λ e. apart (sym e.1 ∙ e.0)) ∙ at_other g table n a b both u u lu lb (λ e. apart (sym e.0 ∙ e.1))

  second : at g (filled table n a b both at_a at_b) n b a ≡ g.value both
  second = off b a la (λ e. apart (sym e)) ∙ at_same g _ n b a both lb la (simp length-set size)

  first : at g (filled table n a b both at_a at_b) n a b ≡ g.value both
  first = off a b lb apart ∙ at_other g _ n b a both a b lb la (λ e. apart e.0) ∙ at_same g table n a b both la lb size

  own_second : at g (filled table n a b both at_a at_b) n b b ≡ g.value at_b
  own_second = at_same g _ n b b at_b lb lb (simp length-set size)

  own_first : at g (filled table n a b both at_a at_b) n a a ≡ g.value at_a
  own_first = at_other g _ n b b at_b a a la lb (λ e. apart e.0) ∙ at_same g _ n a a at_a la la (simp length-set size)

  own_else : (u : ℕ) → u < n → (u ≡ a → ⊥) → (u ≡ b → ⊥) → at g (filled table n a b both at_a at_b) n u u ≡ at g table n u u
  own_else u lu p q = at_other g _ n b b at_b u u lu lb (λ e. q e.0) ∙ at_other g _ n a a at_a u u lu la (λ e. p e.0) ∙ diagonal u lu

  module _ (ls : List (Link g.Value)) (holds : Holds g n ls [] table) (sound : Sound (kind_of g) n (linked ls a b (g.value weight)))
      (both_is : g.value both ≡ g.plus (at g table n a b) (g.value weight))
      (at-a-is : g.value at_a ≡ g.plus (at g table n a a) (g.value weight))
      (at-b-is : g.value at_b ≡ g.plus (at g table n b b) (g.value weight)) where
    joint_grown : g.value both ≡ joint (kind_of g) (linked ls a b (g.value weight)) [] a b
    joint_grown =
        both_is ∙ ap (λ s. g.plus s (g.value weight)) (holds.joints a b (stands_from n [] a la refl) (stands_from n [] b lb refl) apart)
        ∙ sym (sum_with (kind_of g) laws n ls _ sound refl _ (at_pair a b))

    joint_same : (u v : ℕ) → ((u ≡ a) × (v ≡ b) → ⊥) → ((u ≡ b) × (v ≡ a) → ⊥) → joint (kind_of g) ls [] u v ≡ joint (kind_of g) (linked ls a b (g.value weight)) [] u v
    joint_same u v away turned = sym (sum_without (kind_of g) laws n ls _ sound refl _ (at_no_pair a b u v away turned))

    degree_grown : (u : ℕ) (x : W) → u < n → g.value x ≡ g.plus (at g table n u u) (g.value weight) → differ (only u a) (only u b) ≡ true → g.value x ≡ degree (kind_of g) (linked ls a b (g.value weight)) [] u
    degree_grown u x lu is here = is ∙ ap (λ s. g.plus s (g.value weight)) (holds.degrees u (stands_from n [] u lu refl)) ∙ sym (sum_with (kind_of g) laws n ls _ sound refl _ here)

    -- the table written so is that of one link more
    pub filled_holds : Holds g n (linked ls a b (g.value weight)) [] (filled table n a b both at_a at_b)
    filled_holds = record {
      joints = λ u v su sv ne. ⊎_elim
          (λ (e : (u ≡ a) × (v ≡ b)). subst₂ Right (sym e.0) (sym e.1) (first ∙ joint_grown))
          (λ (away : (u ≡ a) × (v ≡ b) → ⊥). ⊎_elim
          (λ (e : (u ≡ b) × (v ≡ a)). subst₂ Right (sym e.0) (sym e.1) (second ∙ joint_grown ∙ joint_sym (kind_of g) laws n _ sound [] a b apart))
          (λ (turned : (u ≡ b) × (v ≡ a) → ⊥). elsewhere u v (stands_less n [] v sv) ne away turned ∙ holds.joints u v su sv ne ∙ joint_same u v away turned)
          (cases_two u b v a))
          (cases_two u a v b);
      degrees = λ u su. ⊎_elim
          (λ (e : u ≡ a). subst Own (sym e) (own_first ∙ degree_grown a at_a la at-a-is (at_first a b apart)))
          (λ (p : u ≡ a → ⊥). ⊎_elim
          (λ (e : u ≡ b). subst Own (sym e) (own_second ∙ degree_grown b at_b lb at-b-is (at_second a b apart)))
          (λ (q : u ≡ b → ⊥). own_else u (stands_less n [] u su) p q ∙ holds.degrees u su ∙ sym (sum_without (kind_of g) laws n ls _ sound refl _ (at_neither a b u p q)))
          (cases_eq u b))
          (cases_eq u a);
    }
      where
        Right : ℕ → ℕ → Type 0
        Right u v = at g (filled table n a b both at_a at_b) n u v ≡ joint (kind_of g) (linked ls a b (g.value weight)) [] u v

        Own : ℕ → Type 0
        Own u = at g (filled table n a b both at_a at_b) n u u ≡ degree (kind_of g) (linked ls a b (g.value weight)) [] u
