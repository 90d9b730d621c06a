-- Pairs that are noted, and pairs that are found, merge to the same.
use Rattle.std.proofs.Common.{◌≡◌, ℕ, ◌<◌, ◌≤◌, min, max, Bool, true, false, cond, ◌||◌, eqb, ◌⊎◌, List, [], ◌∷◌, ◌++◌, sym, refl, ap, ◌∙◌, inl, inr, ⊎_elim, arith}
use mathlib.Core.Path.{fun_ext}
use Rattle.std.proofs.lemmas.Bool.Decides.{nat_tests}
use Rattle.std.proofs.lemmas.Bool.{cases_lt, eqb-true, eqb-false, or_cases, or_parts}
use Rattle.cuts.specs.declared.ground.Ground.TheVariants.{Scan}
use Rattle.cuts.specs.Kinds.{Kind}
use Rattle.cuts.specs.Links.{Link}
use Rattle.cuts.specs.Groups.{after}
use Rattle.cuts.specs.Records.{Point, merger, ended, merge, merge_found}
use Rattle.cuts.specs.Noted.{brought, classes, noted, NotedSame}
use Rattle.cuts.proofs.Names.{merged, after_more}

-- of one class after a pair is brought together: of one class before, or of the pair's two
brought_cases : (a b x y : ℕ) → merged (min a b) (max a b) x ≡ merged (min a b) (max a b) y → (x ≡ y) ⊎ (((x ≡ a) × (y ≡ b)) ⊎ ((x ≡ b) × (y ≡ a)))
brought_cases a b x y e =
    ⊎_elim
    (λ (l : a < b). let lo : min a b ≡ a = omega arith in let hi : max a b ≡ b = omega arith in let k = rw (lo, hi) at e in two a b x y l k)
    (λ (g : b ≤ a). let lo : min a b ≡ b = omega arith in let hi : max a b ≡ a = omega arith in let k = rw (lo, hi) at e in
    ⊎_elim
    (λ (l : b < a). ⊎_elim inl (λ r. inr (⊎_elim inr inl r)) (two b a x y l k))
    (λ (h : a ≤ b). let is : b ≡ a = omega arith in inl (grind (arith, nat_tests)))
    (cases_lt b a))
    (cases_lt a b)
  where
    two : (a b x y : ℕ) → a < b → merged a b x ≡ merged a b y → (x ≡ y) ⊎ (((x ≡ a) × (y ≡ b)) ⊎ ((x ≡ b) × (y ≡ a)))
    two a b x y l k = grind (arith, nat_tests)

merged_pair : (a b : ℕ) → merged (min a b) (max a b) a ≡ merged (min a b) (max a b) b
merged_pair a b =
    ⊎_elim
    (λ (l : a < b). let lo : min a b ≡ a = omega arith in let hi : max a b ≡ b = omega arith in rw (lo, hi) (grind (arith, nat_tests)))
    (λ (g : b ≤ a). let lo : min a b ≡ b = omega arith in let hi : max a b ≡ a = omega arith in rw (lo, hi) (grind (arith, nat_tests)))
    (cases_lt a b)

brought_same : (c : ℕ → ℕ) (f : ℕ × ℕ) → c f.0 ≡ c f.1 → brought c f ≡ c
brought_same c f e = fun_ext (λ x. let lo : min (c f.0) (c f.1) ≡ c f.1 = omega arith in let hi : max (c f.0) (c f.1) ≡ c f.1 = omega arith in rw (lo, hi) (grind (arith, nat_tests)))

pub classes_more : (c : ℕ → ℕ) (fs : List (ℕ × ℕ)) (f : ℕ × ℕ) → classes c (fs ++ (f ∷ [])) ≡ brought (classes c fs) f
classes_more c [] f = refl
classes_more c (g ∷ fs) f = classes_more (brought c g) fs f

-- one more pair found: noted exactly where it joins two classes
pub noted_more : (c : ℕ → ℕ) (fs : List (ℕ × ℕ)) (f : ℕ × ℕ) → noted c (fs ++ (f ∷ [])) ≡ noted c fs ++ cond (eqb (classes c fs f.0) (classes c fs f.1)) [] (f ∷ [])
noted_more c [] f = refl
noted_more c (g ∷ fs) f =
    go (eqb (c g.0) (c g.1)) refl (noted_more c fs f) (noted_more (brought c g) fs f)
  where
    go : (b : Bool) → eqb (c g.0) (c g.1) ≡ b
        → noted c (fs ++ (f ∷ [])) ≡ noted c fs ++ cond (eqb (classes c fs f.0) (classes c fs f.1)) [] (f ∷ [])
        → noted (brought c g) (fs ++ (f ∷ [])) ≡ noted (brought c g) fs ++ cond (eqb (classes (brought c g) fs f.0) (classes (brought c g) fs f.1)) [] (f ∷ [])
        → cond b (noted c (fs ++ (f ∷ []))) (g ∷ noted (brought c g) (fs ++ (f ∷ []))) ≡ cond b (noted c fs) (g ∷ noted (brought c g) fs) ++ cond (eqb (classes (brought c g) fs f.0) (classes (brought c g) fs f.1)) [] (f ∷ [])
    go true e kept new = kept ∙ ap (λ d. noted c fs ++ cond (eqb (classes d fs f.0) (classes d fs f.1)) [] (f ∷ [])) (sym (brought_same c g (eqb-true _ _ e)))
    go false e kept new = ap (λ r. g ∷ r) new

module _ {V : Type 0} (K : Kind V) (n : ℕ) (ls : List (Link V)) where
  -- once work has ended nothing is merged
  pub stopped : (fs : List (ℕ × ℕ)) (p : Point) → ended K n ls p ≡ true → merge_found K n ls fs p ≡ p
  stopped [] p h = refl
  stopped (f ∷ fs) p h =
      let e : (ended K n ls p || eqb (after p.done f.0) (after p.done f.1)) ≡ true = rw h in
      ap (λ b. cond b (merge_found K n ls fs p) (merge_found K n ls fs (merge K n ls p (merger (after p.done f.0) (after p.done f.1) Scan p.scans)))) e ∙ stopped fs p h

  -- what is of one class is in one group
  abbrev Agree : (ℕ → ℕ) → Point → Type 0
  Agree c p = (x y : ℕ) → c x ≡ c y → after p.done x ≡ after p.done y

  agree_brought : (c : ℕ → ℕ) (f : ℕ × ℕ) (p : Point) → Agree c p → after p.done f.0 ≡ after p.done f.1 → Agree (brought c f) p
  agree_brought c f p agree e x y h =
      ⊎_elim (agree x y)
      (⊎_elim (λ r. agree x f.0 r.0 ∙ e ∙ sym (agree y f.1 r.1)) (λ r. agree x f.1 r.0 ∙ sym e ∙ sym (agree y f.0 r.1)))
      (brought_cases (c f.0) (c f.1) (c x) (c y) h)

  agree_merged : (c : ℕ → ℕ) (f : ℕ × ℕ) (p : Point) → Agree c p → Agree c (merge K n ls p (merger (after p.done f.0) (after p.done f.1) Scan p.scans))
  agree_merged c f p agree x y h =
      let e = merger (after p.done f.0) (after p.done f.1) Scan p.scans in
      after_more p.done e x ∙ ap (merged e.low e.high) (agree x y h) ∙ sym (after_more p.done e y)

  merged_together : (f : ℕ × ℕ) (p : Point) → let q = merge K n ls p (merger (after p.done f.0) (after p.done f.1) Scan p.scans) in after q.done f.0 ≡ after q.done f.1
  merged_together f p =
      let e = merger (after p.done f.0) (after p.done f.1) Scan p.scans in
      after_more p.done e f.0 ∙ merged_pair (after p.done f.0) (after p.done f.1) ∙ sym (after_more p.done e f.1)

  same_from : (c : ℕ → ℕ) (fs : List (ℕ × ℕ)) (p : Point) → Agree c p → merge_found K n ls (noted c fs) p ≡ merge_found K n ls fs p
  same_from c [] p agree = refl
  same_from c (f ∷ fs) p agree =
      go (eqb (c f.0) (c f.1)) refl (ended K n ls p || eqb (after p.done f.0) (after p.done f.1)) refl (same_from c fs) (same_from (brought c f) fs)
    where
      next : Point
      next = merge K n ls p (merger (after p.done f.0) (after p.done f.1) Scan p.scans)

      go : (b : Bool) → eqb (c f.0) (c f.1) ≡ b → (t : Bool) → (ended K n ls p || eqb (after p.done f.0) (after p.done f.1)) ≡ t
          → ((q : Point) → Agree c q → merge_found K n ls (noted c fs) q ≡ merge_found K n ls fs q)
          → ((q : Point) → Agree (brought c f) q → merge_found K n ls (noted (brought c f) fs) q ≡ merge_found K n ls fs q)
          → merge_found K n ls (cond b (noted c fs) (f ∷ noted (brought c f) fs)) p ≡ cond t (merge_found K n ls fs p) (merge_found K n ls fs (merge K n ls p (merger (after p.done f.0) (after p.done f.1) Scan p.scans)))
      go true e true h same new = same p agree
      go true e false h same new = absurd (let r = or_parts (ended K n ls p) (eqb (after p.done f.0) (after p.done f.1)) h in eqb-false _ _ r.1 (agree f.0 f.1 (eqb-true _ _ e)))
      go false e true h same new =
          ap (λ t. cond t (merge_found K n ls (noted (brought c f) fs) p) (merge_found K n ls (noted (brought c f) fs) next)) h
          ∙ ⊎_elim (λ (over : ended K n ls p ≡ true). stopped (noted (brought c f) fs) p over ∙ sym (stopped fs p over))
          (λ is. new p (agree_brought c f p agree (eqb-true _ _ is)))
          (or_cases (ended K n ls p) (eqb (after p.done f.0) (after p.done f.1)) h)
      go false e false h same new =
          ap (λ t. cond t (merge_found K n ls (noted (brought c f) fs) p) (merge_found K n ls (noted (brought c f) fs) next)) h
          ∙ new next (agree_brought c f next (agree_merged c f p agree) (merged_together f p))

pub noted_same : {V : Type 0} (K : Kind V) → NotedSame K
noted_same K n ls fs p = same_from K n ls (λ x. x) fs p (λ x y e. ap (after p.done) e)
