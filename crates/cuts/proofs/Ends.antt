-- Where mergers that lose nothing end, best is a weakest division, and at each point the figure is the least.
use Rattle.std.proofs.Common.{◌≡◌, ℕ, ◌+◌, ◌<◌, ◌≤◌, Bool, true, false, eqb, ltb, ◌⊎◌, List, [], ◌∷◌, ◌++◌, length, take, drop, sym, refl, ap, ◌∙◌, subst, inl, inr, ⊎_elim, arith, take-append-drop, length-take, take-take}
use Rattle.std.proofs.lemmas.Bool.Decides.{nat_tests}
use Rattle.std.proofs.lemmas.Bool.{cases_lt, ltb-true}
use Rattle.cuts.specs.declared.entry.Entry.{Entry}
use Rattle.cuts.specs.Kinds.{Kind, Lawful, AtMost}
use Rattle.cuts.specs.Links.{Link, Sound}
use Rattle.cuts.specs.Divisions.{Division, weight_of, Weakest}
use Rattle.cuts.specs.Groups.{after, group, stands, Whole, degree}
use Rattle.cuts.specs.Claims.{LeastAt}
use Rattle.cuts.proofs.Rules.{cuts}
use Rattle.cuts.proofs.Sums.{weigh_over}
use Rattle.cuts.proofs.Served.{served, served_over, weight_cut}
use Rattle.cuts.proofs.Counts.{two_left}
use Rattle.cuts.proofs.Moves.{differing}
use Rattle.cuts.proofs.Names.{Named, merged, after_append, after_more, named, lands, stands_less, joins_take, group_division, whole_own, own_whole}
use Rattle.cuts.proofs.Mergers.{Merged, single, more, Stood, stood_longer, fit_weight, at_least, through, merged_joins, best_least, best_present, best_stood}

same_side : (S : ℕ → Bool) (u v g : ℕ) → S u ≡ S v → S g ≡ S (merged u v g)
same_side S u v g e = grind (arith, nat_tests)

whole_more : (n : ℕ) (es : List Entry) (e : Entry) (S : ℕ → Bool) → Named n es → Whole n es S → S e.low ≡ S e.high → Whole n (es ++ (e ∷ [])) S
whole_more n es e S names whole same =
    own_whole n (es ++ (e ∷ [])) S (λ x. whole_own n es S names whole x ∙ same_side S e.low e.high (after es x) same ∙ ap S (sym (after_more es e x)))

-- of two groups one is on each side
one_side : (S : ℕ → Bool) (g k z : ℕ) → (z ≡ g) ⊎ (z ≡ k) → S g ≡ true → S k ≡ false → S z ≡ eqb z g
one_side S g k z is sg sk = grind (arith, nat_tests)

module _ {V : Type 0} (K : Kind V) (laws : Lawful K) (n : ℕ) (ls : List (Link V)) (sound : Sound K n ls) where
  -- only the units of the plan matter
  pub weight_below : (S T : ℕ → Bool) → ((x : ℕ) → x < n → S x ≡ T x) → weight_of K ls S ≡ weight_of K ls T
  weight_below S T h =
      weight_cut K laws n ls sound S
      ∙ weigh_over K (λ x. ltb x n) (served ls) (cuts S) (cuts T) (served_over n ls sound.ends) (λ x y p q. let a = h x (ltb-true x n p) in let b = h y (ltb-true y n q) in rw (a, b) refl)
      ∙ sym (weight_cut K laws n ls sound T)

  -- some group so far, or some division that keeps every present group whole, weighs no more than D
  abbrev Claim : List Entry → (ℕ → Bool) → Type 0
  Claim es D =
      ((G : ℕ → Bool) × Stood K laws n ls sound es G × AtMost K (weight_of K ls G) (weight_of K ls D))
      ⊎ ((S : ℕ → Bool) × Division n S × Whole n es S × AtMost K (weight_of K ls S) (weight_of K ls D))

  claim : {es : List Entry} {best : ℕ → Bool} → 2 ≤ n → Merged K n ls es best → (D : ℕ → Bool) → Division n D → Claim es D
  claim two (single u l least) D division = inr (D, division, (λ x y lx ly e. ap D e), at_least K laws n ls sound D)
  claim two (more {es = es} {best = best} m e low high less room loses) D division =
      ⊎_elim (λ c. inl (c.0, stood_longer K laws n ls sound es e c.0 c.1, c.2)) step (claim two m D division)
    where
      names : Named n es
      names = named n es (merged_joins K laws n ls sound two m).0

      step : (S : ℕ → Bool) × Division n S × Whole n es S × AtMost K (weight_of K ls S) (weight_of K ls D) → Claim (es ++ (e ∷ [])) D
      step (S, cuts-S, whole, light) =
          ⊎_elim (λ same. inr (S, cuts-S, whole_more n es e S (named n es (merged_joins K laws n ls sound two m).0) whole same, light))
          (λ parted. ⊎_elim
          (λ h. inl (best, stood_longer K laws n ls sound es e best (best_stood K laws n ls sound two m), through K laws n ls sound best S D h light))
          (λ r. inr (r.0, r.1, whole_more n es e r.0 (named n es (merged_joins K laws n ls sound two m).0) r.2 r.3, through K laws n ls sound r.0 S D r.4 light))
          (loses S cuts-S whole parted))
          (differing (S e.low) (S e.high))

  -- a division that keeps the last two groups whole marks one of them
  last_group : (es : List Entry) → Named n es → n ≤ length es + 2 → (S : ℕ → Bool) → Division n S → Whole n es S → (g : ℕ) × (stands n es g ≡ true) × (weight_of K ls S ≡ degree K ls es g)
  last_group es names few S division whole =
      let (a, la, sa) = division.some in
      let (b, lb, sb) = division.not_all in
      let own = whole_own n es S names whole in
      let sg = sym (own a) ∙ sa in
      let sk = sym (own b) ∙ sb in
      let ga = lands n es names a la in
      let gb = lands n es names b lb in
      let apart : after es a ≡ after es b → ⊥ = λ e. let k = ap S e in grind arith in
      let left = names.fewer in
      let each = two_left n (stands n es) (after es a) (after es b) (stands_less n es _ ga) (stands_less n es _ gb) ga gb apart (omega arith) in
      (after es a, ga, weight_below S (group es (after es a)) (λ x lx. own x ∙ one_side S (after es a) (after es b) (after es x) (each (after es x) (stands_less n es _ (lands n es names x lx)) (lands n es names x lx)) sg sk))

  -- two groups are left, or best is nothing
  pub best_of_all : {es : List Entry} {best : ℕ → Bool} → 2 ≤ n → Merged K n ls es best → (n ≤ length es + 2) ⊎ AtMost K (weight_of K ls best) K.nothing → (D : ℕ → Bool) → Division n D → AtMost K (weight_of K ls best) (weight_of K ls D)
  best_of_all {es} {best} two m (inr none) D division = laws.trans _ _ _ (fit_weight K laws n ls sound best) (omega (arith, laws.none)) (fit_weight K laws n ls sound D) none (laws.least _ (fit_weight K laws n ls sound D))
  best_of_all {es} {best} two m (inl few) D division =
      ⊎_elim
      (λ c. let (k, g, h, st, is) = c.1 in
      through K laws n ls sound best c.0 D (subst (λ G. AtMost K (weight_of K ls best) (weight_of K ls G)) (sym is) (best_least K laws n ls sound two m k g h st)) c.2)
      (λ c. let (g, st, is) = last_group es (named n es (merged_joins K laws n ls sound two m).0) few c.0 c.1 c.2 in
      through K laws n ls sound best c.0 D (subst (λ w. AtMost K (weight_of K ls best) w) (sym is) (best_present K laws n ls sound two m g st)) c.3)
      (claim two m D division)

  -- a group made later keeps the groups of an earlier point whole
  later_whole : (es : List Entry) (k j g : ℕ) → k ≤ j → Whole n (take k es) (group (take j es) g)
  later_whole es k j g h x y lx ly e =
      let split : take k es ++ drop k (take j es) ≡ take j es = ap (λ d. d ++ drop k (take j es)) (sym (take-take k j es h)) ∙ take-append-drop k (take j es) in
      let at = λ (z : ℕ). ap (λ d. after d z) (sym split) ∙ after_append (take k es) (drop k (take j es)) z in
      ap (λ z. eqb z g) (at x ∙ ap (after (drop k (take j es))) e ∙ sym (at y))

  module _ {es : List Entry} {best : ℕ → Bool} (two : 2 ≤ n) (m : Merged K n ls es best) (end : (n ≤ length es + 2) ⊎ AtMost K (weight_of K ls best) K.nothing) where
    -- a group so far is a division
    so_far_division : (k g : ℕ) → k ≤ length es → stands n (take k es) g ≡ true → Division n (group (take k es) g)
    so_far_division k g h st =
        let j = merged_joins K laws n ls sound two m in
        let short = length-take k es in
        group_division n (take k es) (named n (take k es) (joins_take n [] es k j.0)) (omega arith) g st

    pub merged_weakest : Weakest K n ls best
    merged_weakest =
        let (k, g, h, st, is) = best_stood K laws n ls sound two m in
        record { division = subst (Division n) (sym is) (so_far_division k g h st); least = best_of_all two m end }

    pub merged_points : (k : ℕ) → k ≤ length es → LeastAt K n ls (take k es) (weight_of K ls best)
    merged_points k h = record {
      groups = λ j g i st.
          let short = length-take k es in
          let jk : j ≤ k = omega arith in
          let same = take-take j k es jk in
          subst (λ d. AtMost K (weight_of K ls best) (degree K ls d g)) (sym same)
          (best_of_all two m end (group (take j es) g) (so_far_division j g (omega arith) (subst (λ d. stands n d g ≡ true) same st)));
      divisions = λ S division whole. best_of_all two m end S division;
      reached =
          let (j, g, i, st, is) = best_stood K laws n ls sound two m in
          ⊎_elim
          (λ (l : j < k).
          let same = take-take j k es (omega arith) in
          let short = length-take k es in
          inl (j, g, omega arith, subst (λ d. stands n d g ≡ true) (sym same) st, ap (weight_of K ls) is ∙ ap (λ d. degree K ls d g) (sym same)))
          (λ (l : k ≤ j). inr (group (take j es) g, so_far_division j g i st, later_whole es k j g l, ap (weight_of K ls) is))
          (cases_lt j k);
    }
