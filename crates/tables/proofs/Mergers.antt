-- The table while the row of a group is added to that of a lower one.
use Rattle.std.proofs.Common.{◌≡◌, ℕ, ◌+◌, ◌*◌, ◌<◌, ◌≤◌, Bool, true, false, not, ◌&&◌, ◌||◌, eqb, ltb, List, [], ◌∷◌, ◌++◌, length, drop, set, sym, refl, ap, ◌∙◌, subst, ap₂, subst₂, ⊎_elim, add-one, arith, length-set}
use Rattle.std.proofs.lemmas.Bool.{cases_eq, cond-true, cond-false, cases_Bool, and_parts}
use Rattle.std.proofs.lemmas.Bool.Decides.{nat_tests}
use Rattle.weights.specs.Laws.{limit}
use Rattle.weights.specs.declared.weight.Weight.{Ghosts}
use Rattle.cuts.specs.declared.entry.Entry.{Entry}
use Rattle.cuts.specs.Kinds.{Lawful, kind_of}
use Rattle.cuts.specs.Links.{Link, Sound}
use Rattle.cuts.specs.Groups.{stands, Joins, degree, joint}
use Rattle.cuts.proofs.Facts.{sums_fit, joint_sym}
use Rattle.cuts.proofs.Names.{named, named_more, stands_more, stands_less}
use Rattle.cuts.proofs.Steps.{joined, joined_fits, degree_joined, joint_merged, joint_kept, degree_kept}
use Rattle.tables.specs.Meaning.{at, Holds}
use Rattle.tables.proofs.Places.{at_same, at_other, rest_set}

-- the entries of u with the groups below w
abbrev pub reached : ℕ → ℕ → ℕ → ℕ → Bool
reached u w a b = (eqb a u && ltb b w) || (eqb b u && ltb a w)

-- the entry of u and w written, both ways
abbrev pub written : {W : Type 0} → List W → ℕ → ℕ → ℕ → W → List W
written table n u w x = set (set table (u * n + w) x) (w * n + u) x

reached_less : (u w a b : ℕ) → reached u (w + 1) a b ≡ false → reached u w a b ≡ false
reached_less u w a b h = grind (arith, nat_tests)

reached_row : (u w a b : ℕ) → reached u (w + 1) a b ≡ false → (a ≡ u) × (b ≡ w) → ⊥
reached_row u w a b h (p, q) = grind (arith, nat_tests)

reached_column : (u w a b : ℕ) → reached u (w + 1) a b ≡ false → (a ≡ w) × (b ≡ u) → ⊥
reached_column u w a b h (p, q) = grind (arith, nat_tests)

not_reached : (u w a b : ℕ) → (a ≡ u → ⊥) → (b ≡ u → ⊥) → reached u w a b ≡ false
not_reached u w a b p q = grind (arith, nat_tests)

not_yet : (u w : ℕ) → (w ≡ u → ⊥) → reached u w u w ≡ false
not_yet u w ne = grind (arith, nat_tests)

module _ {W : Type 0} (g : Ghosts W) (n u : ℕ) (old : List W) where
  -- entries that are not reached are as they were
  abbrev pub Kept : List W → ℕ → Type 0
  Kept table w = (a b : ℕ) → b < n → reached u w a b ≡ false → at g table n a b ≡ at g old n a b

  pub kept_none : Kept old 0
  kept_none a b lt h = refl

  pub kept_skip : (table : List W) (w : ℕ) → Kept table w → Kept table (w + 1)
  kept_skip table w kept a b lt h = kept a b lt (reached_less u w a b h)

  pub kept_more : (table : List W) (w : ℕ) (x : W) → u < n → w < n → Kept table w → Kept (written table n u w x) (w + 1)
  kept_more table w x lu lw kept a b lt h =
      at_other g _ n w u x a b lt lu (reached_column u w a b h) ∙ at_other g table n u w x a b lt lw (reached_row u w a b h) ∙ kept a b lt (reached_less u w a b h)

  pub written_rest : (table : List W) (w : ℕ) (x : W) → u < n → w < n → drop (n * n) (written table n u w x) ≡ drop (n * n) table
  written_rest table w x lu lw = rest_set g _ n w u x lw lu ∙ rest_set g table n u w x lu lw

-- w is a group, and neither of the two that are merged
abbrev pub Third : ℕ → List Entry → Entry → ℕ → Type 0
Third n es e w = (stands n es w ≡ true) × (w ≡ e.low → ⊥) × (w ≡ e.high → ⊥)

module _ {W : Type 0} (g : Ghosts W) (n : ℕ) (ls : List (Link g.Value)) (es : List Entry) (e : Entry) where
  -- the entries of the merged group with those below w are its joint weights, and what was added up so far is their sum
  pub record Midway (table : List W) (w : ℕ) (sum : W) : Type 0 where
    pub row : (b : ℕ) → b < w → Third n es e b → at g table n e.low b ≡ joint (kind_of g) ls (es ++ (e ∷ [])) e.low b
    pub column : (b : ℕ) → b < w → Third n es e b → at g table n b e.low ≡ joint (kind_of g) ls (es ++ (e ∷ [])) b e.low
    pub total : g.value sum ≡ joined (kind_of g) n ls (es ++ (e ∷ [])) e.low w

  module _ (laws : Lawful (kind_of g)) (sound : Sound (kind_of g) n ls) (joins : Joins n [] es) (low : stands n es e.low ≡ true) (high : stands n es e.high ≡ true) (less : e.low < e.high) where
    apart : e.low ≡ e.high → ⊥
    apart i = omega arith

    -- which groups are added up
    stands_still : (w : ℕ) → (stands n (es ++ (e ∷ [])) w && not (eqb w e.low)) ≡ ((stands n es w && not (eqb w e.high)) && not (eqb w e.low))
    stands_still w = ap (λ b. b && not (eqb w e.low)) (stands_more n es e (named n es joins) low high less w)

    added : (w : ℕ) → Third n es e w → (stands n (es ++ (e ∷ [])) w && not (eqb w e.low)) ≡ true
    added w (s, p, q) = stands_still w ∙ grind (arith, nat_tests)

    third_of : (w : ℕ) → (stands n (es ++ (e ∷ [])) w && not (eqb w e.low)) ≡ true → Third n es e w
    third_of w h =
        let parts = and_parts _ _ (sym (stands_still w) ∙ h) in
        let own = and_parts _ _ parts.0 in
        (own.0, λ i. let k = parts.1 in grind (arith, nat_tests), λ i. let k = own.1 in grind (arith, nat_tests))

    passed : (w : ℕ) → (Third n es e w → ⊥) → (stands n (es ++ (e ∷ [])) w && not (eqb w e.low)) ≡ false
    passed w out = ⊎_elim (λ h. absurd (out (third_of w h))) (λ h. h) (cases_Bool (stands n (es ++ (e ∷ [])) w && not (eqb w e.low)))

    pub mid_none : (table : List W) (sum : W) → g.value sum ≡ g.zero → Midway table 0 sum
    mid_none table sum is = record { row = λ b lt. absurd (omega arith); column = λ b lt. absurd (omega arith); total = is }

    pub mid_skip : (table : List W) (w : ℕ) (sum : W) → (Third n es e w → ⊥) → Midway table w sum → Midway table (w + 1) sum
    mid_skip table w sum out mid = record {
      row = λ b lt third. mid.row b (before b lt third) third;
      column = λ b lt third. mid.column b (before b lt third) third;
      total = mid.total ∙ sym (ap (joined (kind_of g) n ls (es ++ (e ∷ [])) e.low) (add-one w) ∙ cond-false _ _ _ (passed w out));
    }
      where
        before : (b : ℕ) → b < w + 1 → Third n es e b → b < w
        before b lt third = ⊎_elim (λ (i : b ≡ w). absurd (out (subst (Third n es e) i third))) (λ (ne : b ≡ w → ⊥). omega arith) (cases_eq b w)

    module _ (old table : List W) (holds : Holds g n ls es old) (w : ℕ) (kept : Kept g n e.low old table w) (third : Third n es e w) where
      -- the two entries that are read are still those of the two groups
      read_low : at g table n e.low w ≡ joint (kind_of g) ls es e.low w
      read_low = kept e.low w (stands_less n es w third.0) (not_yet e.low w third.1) ∙ holds.joints e.low w low third.0 (λ i. third.1 (sym i))

      read_high : at g table n e.high w ≡ joint (kind_of g) ls es e.high w
      read_high = kept e.high w (stands_less n es w third.0) (not_reached e.low w e.high w (λ i. apart (sym i)) third.1) ∙ holds.joints e.high w high third.0 (λ i. third.2 (sym i))

      pub both_fit : g.size (at g table n e.low w) + g.size (at g table n e.high w) ≤ limit
      both_fit = subst₂ (λ v z. g.size v + g.size z ≤ limit) (sym read_low) (sym read_high) (sums_fit (kind_of g) laws n ls sound _ _)

      module _ (sum both : W) (mid : Midway table w sum) (is : g.value both ≡ g.plus (at g table n e.low w) (at g table n e.high w)) where
        -- their sum is the joint weight of the merged group
        joint_is : g.value both ≡ joint (kind_of g) ls (es ++ (e ∷ [])) e.low w
        joint_is = is ∙ ap₂ g.plus read_low read_high ∙ sym (joint_merged (kind_of g) laws n ls sound es e w apart third.1 third.2)

        pub sum_fits : g.size (g.value sum) + g.size (g.value both) ≤ limit
        sum_fits = subst₂ (λ v z. g.size v + g.size z ≤ limit) (sym mid.total) (sym joint_is) (joined_fits (kind_of g) laws n ls sound (es ++ (e ∷ [])) e.low w (added w third))

        pub mid_more : (next : W) → n * n ≤ length table → g.value next ≡ g.plus (g.value sum) (g.value both) → Midway (written table n e.low w both) (w + 1) next
        mid_more next size grown = record {
          row = λ b lt other. ⊎_elim
              (λ (i : w ≡ b). subst Row i (at_other g _ n w e.low both e.low w lw lu (λ j. third.1 j.1) ∙ at_same g table n e.low w both lu lw size ∙ joint_is))
              (λ (ne : w ≡ b → ⊥). away e.low b (stands_less n es b other.0) (λ j. ne (sym j.1)) (λ j. other.1 j.1) ∙ mid.row b (omega arith) other)
              (cases_eq w b);
          column = λ b lt other. ⊎_elim
              (λ (i : w ≡ b). subst Column i (at_same g _ n w e.low both lw lu (simp length-set size) ∙ joint_is ∙ joint_sym (kind_of g) laws n ls sound (es ++ (e ∷ [])) e.low w (λ j. third.1 (sym j))))
              (λ (ne : w ≡ b → ⊥). away b e.low lu (λ j. other.1 j.0) (λ j. ne (sym j.0)) ∙ mid.column b (omega arith) other)
              (cases_eq w b);
          total = grown ∙ ap₂ g.plus mid.total joint_is ∙ sym (ap (joined (kind_of g) n ls (es ++ (e ∷ [])) e.low) (add-one w) ∙ cond-true _ _ _ (added w third));
        }
          where
            lu : e.low < n
            lu = stands_less n es e.low low

            lw : w < n
            lw = stands_less n es w third.0

            Row : ℕ → Type 0
            Row b = at g (written table n e.low w both) n e.low b ≡ joint (kind_of g) ls (es ++ (e ∷ [])) e.low b

            Column : ℕ → Type 0
            Column b = at g (written table n e.low w both) n b e.low ≡ joint (kind_of g) ls (es ++ (e ∷ [])) b e.low

            away : (a b : ℕ) → b < n → ((a ≡ e.low) × (b ≡ w) → ⊥) → ((a ≡ w) × (b ≡ e.low) → ⊥) → at g (written table n e.low w both) n a b ≡ at g table n a b
            away a b lt p q = at_other g _ n w e.low both a b lt lu q ∙ at_other g table n e.low w both a b lt lw p

    -- at the end, with the degree of the merged group written
    pub mid_all : (old table : List W) (sum : W) → Holds g n ls es old → Kept g n e.low old table n → Midway table n sum → n * n ≤ length table → Holds g n ls (es ++ (e ∷ [])) (set table (e.low * n + e.low) sum)
    mid_all old table sum holds kept mid size = record {
      joints = λ a b sa sb ne.
          let p = left a sa in
          let q = left b sb in
          at_other g table n e.low e.low sum a b (stands_less n es b q.0) lu (λ i. ne (i.0 ∙ sym i.1))
          ∙ ⊎_elim
          (λ (i : a ≡ e.low). subst (λ c. at g table n c b ≡ joint (kind_of g) ls (es ++ (e ∷ [])) c b) (sym i) (mid.row b (stands_less n es b q.0) (q.0, λ j. ne (i ∙ sym j), q.1)))
          (λ (al : a ≡ e.low → ⊥). ⊎_elim
          (λ (i : b ≡ e.low). subst (λ c. at g table n a c ≡ joint (kind_of g) ls (es ++ (e ∷ [])) a c) (sym i) (mid.column a (stands_less n es a p.0) (p.0, al, p.1)))
          (λ (bl : b ≡ e.low → ⊥). kept a b (stands_less n es b q.0) (not_reached e.low n a b al bl) ∙ holds.joints a b p.0 q.0 ne ∙ sym (joint_kept (kind_of g) laws n ls sound es e a b al p.1 bl q.1))
          (cases_eq b e.low))
          (cases_eq a e.low);
      degrees = λ a sa.
          let p = left a sa in
          ⊎_elim
          (λ (i : a ≡ e.low). subst (λ c. at g (set table (e.low * n + e.low) sum) n c c ≡ degree (kind_of g) ls (es ++ (e ∷ [])) c) (sym i)
          (at_same g table n e.low e.low sum lu lu size ∙ mid.total ∙ sym (degree_joined (kind_of g) laws n ls sound (es ++ (e ∷ [])) (named_more n es e (named n es joins) low high less) e.low)))
          (λ (al : a ≡ e.low → ⊥).
          at_other g table n e.low e.low sum a a (stands_less n es a p.0) lu (λ i. al i.0) ∙ kept a a (stands_less n es a p.0) (not_reached e.low n a a al al)
          ∙ holds.degrees a p.0 ∙ sym (degree_kept (kind_of g) laws n ls sound es e a al p.1))
          (cases_eq a e.low);
    }
      where
        lu : e.low < n
        lu = stands_less n es e.low low

        left : (a : ℕ) → stands n (es ++ (e ∷ [])) a ≡ true → (stands n es a ≡ true) × (a ≡ e.high → ⊥)
        left a h = let parts = and_parts _ _ (sym (stands_more n es e (named n es joins) low high less a) ∙ h) in (parts.0, λ i. let k = parts.1 in grind (arith, nat_tests))
