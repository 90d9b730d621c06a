-- What a merger does to joint weights and degrees, degrees as sums of joint weights, and which sums are not refused.
use Rattle.std.proofs.Common.{◌≡◌, ℕ, zero, suc, ◌+◌, ◌≤◌, Bool, true, false, cond, not, ◌&&◌, ◌||◌, eqb, ltb, List, [], ◌∷◌, ◌++◌, sym, refl, ap, ◌∙◌, ap₂, arith}
use mathlib.Core.Path.{fun_ext}
use Rattle.std.proofs.lemmas.Bool.Decides.{nat_tests}
use Rattle.weights.specs.Laws.{limit}
use Rattle.cuts.specs.declared.entry.Entry.{Entry}
use Rattle.cuts.specs.Kinds.{Kind, Lawful, lesser}
use Rattle.cuts.specs.Links.{Link, sum, Sound}
use Rattle.cuts.specs.Divisions.{only, weight_of}
use Rattle.cuts.specs.Groups.{after, group, stands, degree, joint}
use Rattle.cuts.specs.Tests.{third, gathered}
pub use Rattle.cuts.specs.Sums.{joined}
use Rattle.cuts.proofs.Rules.{weigh, Two, cuts, into, relabel, tie}
use Rattle.cuts.proofs.Sums.{weigh_none, weigh_add, weigh_same, weigh_over, weigh_relabel, fits_both}
use Rattle.cuts.proofs.Points.{two_into, within_one, within_more}
use Rattle.cuts.proofs.Served.{served, links_at, light_at, degree_deg, joint_tie, gathered_gather}
use Rattle.cuts.proofs.Names.{Named, merged, after_more}
use Rattle.cuts.proofs.Grounds.{over_at}
use Rattle.cuts.proofs.Neighbours.{below, not_below, gather_in, chosen}

-- the groups but g, and those below k
abbrev but : ℕ → List Entry → ℕ → ℕ → Bool
but n es g x = stands n es x && not (eqb x g)

abbrev others : (ℕ → Bool) → ℕ → ℕ → Bool
others P k x = ltb x k && P x

relabel_twice : {V : Type 0} (f g : ℕ → ℕ) (ls : List (ℕ × ℕ × V)) → relabel g (relabel f ls) ≡ relabel (λ x. g (f x)) ls
relabel_twice f g [] = refl
relabel_twice f g (l ∷ ls) = ap (λ r. (g (f l.0), g (f l.1), l.2) ∷ r) (relabel_twice f g ls)

module _ (P : ℕ → Bool) (g k x y : ℕ) where
  others_more : P k ≡ true → P g ≡ false → into (others P (suc k)) g x y ≡ into (others P k) g x y + into (only g) k x y
  others_more h out = grind (arith, nat_tests)

  others_same : P k ≡ false → into (others P (suc k)) g x y ≡ into (others P k) g x y
  others_same h = grind (arith, nat_tests)

  others_none : into (others P 0) g x y ≡ 0
  others_none = grind (arith, nat_tests)

others_all : (n : ℕ) (es : List Entry) (g x y : ℕ) → stands n es x ≡ true → stands n es y ≡ true → cuts (only g) x y ≡ into (others (but n es g) n) g x y
others_all n es g x y p q = grind (arith, nat_tests)

but_own : (n : ℕ) (es : List Entry) (g : ℕ) → but n es g g ≡ false
but_own n es g = grind (arith, nat_tests)

module _ {V : Type 0} (K : Kind V) (laws : Lawful K) (n : ℕ) (ls : List (Link V)) (sound : Sound K n ls) where
  -- the links between groups after one merger more
  links_more : (es : List Entry) (e : Entry) → links_at ls (es ++ (e ∷ [])) ≡ relabel (merged e.low e.high) (links_at ls es)
  links_more es e = ap (λ f. relabel f (served ls)) (fun_ext (after_more es e)) ∙ sym (relabel_twice (after es) (merged e.low e.high) (served ls))

  -- the joint weight of the merged group with a third is that of both
  pub joint_merged : (es : List Entry) (e : Entry) (w : ℕ) → (e.low ≡ e.high → ⊥) → (w ≡ e.low → ⊥) → (w ≡ e.high → ⊥) → joint K ls (es ++ (e ∷ [])) e.low w ≡ K.plus (joint K ls es e.low w) (joint K ls es e.high w)
  joint_merged es e w apart wl wh =
      let u = e.low in
      let v = e.high in
      let both : (x y : ℕ) → into (only u) w (merged u v x) (merged u v y) ≡ into (only u) w x y + into (only v) w x y = λ x y. grind (arith, nat_tests) in
      joint_tie K laws n ls sound (es ++ (e ∷ [])) u w (λ i. wl (sym i))
      ∙ ap (λ gs. tie K gs u w) (links_more es e)
      ∙ weigh_relabel K (links_at ls es) (merged u v) (into (only u) w) ∙ weigh_same K (links_at ls es) _ _ both
      ∙ weigh_add K laws (links_at ls es) (light_at K laws n ls sound es) (into (only u) w) (into (only v) w) (λ x y. omega (arith, both x y, two_into (only u) w (merged u v x) (merged u v y)))
      ∙ ap₂ K.plus (sym (joint_tie K laws n ls sound es u w (λ i. wl (sym i)))) (sym (joint_tie K laws n ls sound es v w (λ i. wh (sym i))))

  -- other groups stay as they are
  group_kept : (es : List Entry) (e : Entry) (g : ℕ) → (g ≡ e.low → ⊥) → (g ≡ e.high → ⊥) → group (es ++ (e ∷ [])) g ≡ group es g
  group_kept es e g gl gh = fun_ext (λ x. ap (λ h. eqb h g) (after_more es e x) ∙ grind (arith, nat_tests))

  pub joint_kept : (es : List Entry) (e : Entry) (g h : ℕ) → (g ≡ e.low → ⊥) → (g ≡ e.high → ⊥) → (h ≡ e.low → ⊥) → (h ≡ e.high → ⊥) → joint K ls (es ++ (e ∷ [])) g h ≡ joint K ls es g h
  joint_kept es e g h gl gh hl hh = ap₂ (λ G H. sum K (λ x y. (G x && H y) || (H x && G y)) ls) (group_kept es e g gl gh) (group_kept es e h hl hh)

  pub degree_kept : (es : List Entry) (e : Entry) (g : ℕ) → (g ≡ e.low → ⊥) → (g ≡ e.high → ⊥) → degree K ls (es ++ (e ∷ [])) g ≡ degree K ls es g
  degree_kept es e g gl gh = ap (weight_of K ls) (group_kept es e g gl gh)

  joined_others : (es : List Entry) (g k : ℕ) → joined K n ls es g k ≡ weigh K (links_at ls es) (into (others (but n es g) k) g)
  joined_others es g zero = sym (weigh_same K (links_at ls es) _ (λ x y. 0) (others_none (but n es g) g 0) ∙ weigh_none K laws (links_at ls es))
  joined_others es g (suc k) = go (stands n es k && not (eqb k g)) refl (joined_others es g k)
    where
      go : (b : Bool) → (stands n es k && not (eqb k g)) ≡ b → joined K n ls es g k ≡ weigh K (links_at ls es) (into (others (but n es g) k) g)
          → cond b (K.plus (joined K n ls es g k) (joint K ls es g k)) (joined K n ls es g k) ≡ weigh K (links_at ls es) (into (others (but n es g) (suc k)) g)
      go true h ih =
          let apart : g ≡ k → ⊥ = grind (arith, nat_tests) in
          let more = λ (x y : ℕ). others_more (but n es g) g k x y h (but_own n es g) in
          ap₂ K.plus ih (joint_tie K laws n ls sound es g k apart)
          ∙ sym (weigh_add K laws (links_at ls es) (light_at K laws n ls sound es) (into (others (but n es g) k) g) (into (only g) k) (λ x y. omega (arith, more x y, two_into (others (but n es g) (suc k)) g x y)))
          ∙ sym (weigh_same K (links_at ls es) _ _ more)
      go false h ih = ih ∙ sym (weigh_same K (links_at ls es) _ _ (λ x y. others_same (but n es g) g k x y h))

  -- a degree is the sum of the joint weights with all other groups
  pub degree_joined : (es : List Entry) → Named n es → (g : ℕ) → degree K ls es g ≡ joined K n ls es g n
  degree_joined es names g =
      degree_deg K laws n ls sound es g
      ∙ weigh_over K (stands n es) (links_at ls es) (cuts (only g)) (into (others (but n es g) n) g) (over_at K laws n ls sound es names) (others_all n es g)
      ∙ sym (joined_others es g n)

  -- and none of these sums is refused
  pub joined_fits : (es : List Entry) (g k : ℕ) → (stands n es k && not (eqb k g)) ≡ true → K.amount (joined K n ls es g k) + K.amount (joint K ls es g k) ≤ limit
  joined_fits es g k h =
      let apart : g ≡ k → ⊥ = grind (arith, nat_tests) in
      let f = fits_both K laws (links_at ls es) (light_at K laws n ls sound es) (into (others (but n es g) k) g) (into (only g) k) (λ x y. omega (arith, others_more (but n es g) g k x y h (but_own n es g), two_into (others (but n es g) (suc k)) g x y)) in
      rw (joined_others es g k, joint_tie K laws n ls sound es g k apart) f

  -- the sum of a neighbourhood is not refused at any third group
  pub gathered_fits : (es : List Entry) (u v k : ℕ) → (u ≡ v → ⊥) → third n es u v k ≡ true → K.amount (gathered K n ls es u v k) + K.amount (lesser K (joint K ls es u k) (joint K ls es v k)) ≤ limit
  gathered_fits es u v k apart h =
      let gls = links_at ls es in
      let fit = light_at K laws n ls sound es in
      let P = third n es u v in
      let parted : only u u ≡ only u v → ⊥ = grind (arith, nat_tests) in
      let (σ, is, small, less) = gather_in K laws gls fit (only u) P u v parted (grind (arith, nat_tests)) (grind (arith, nat_tests)) k in
      let c = chosen K laws gls fit u v k in
      let ku : k ≡ u → ⊥ = grind (arith, nat_tests) in
      let kv : k ≡ v → ⊥ = grind (arith, nat_tests) in
      let U = λ (x : ℕ). eqb x u || (eqb x v || (eqb x k || below P k x)) in
      let two : Two (λ x y. σ x y + into (only c.0) k x y) = λ x y. omega (arith, small x y, within_more (below P k) c.0 k u v x y c.1 ku kv (not_below P k), within_one U x y) in
      let f = fits_both K laws gls fit σ (into (only c.0) k) two in
      rw (gathered_gather K laws n ls sound es u v k apart, is, joint_tie K laws n ls sound es u k (λ i. ku (sym i)), joint_tie K laws n ls sound es v k (λ i. kv (sym i)), c.2) f

  -- what joins a group to two others can be doubled
  pub two_joints_fit : (es : List Entry) (g a b : ℕ) → (g ≡ a → ⊥) → (g ≡ b → ⊥) → (a ≡ b → ⊥) → K.amount (K.plus (joint K ls es g a) (joint K ls es g b)) + K.amount (K.plus (joint K ls es g a) (joint K ls es g b)) ≤ limit
  two_joints_fit es g a b ga gb ab =
      let gls = links_at ls es in
      let fit = light_at K laws n ls sound es in
      let f = λ (x y : ℕ). into (only g) a x y + into (only g) b x y in
      let one : (x y : ℕ) → f x y + f x y ≤ 2 = λ x y. grind (arith, nat_tests) in
      rw (joint_tie K laws n ls sound es g a ga, joint_tie K laws n ls sound es g b gb, sym (weigh_add K laws gls fit (into (only g) a) (into (only g) b) (λ x y. omega (arith, one x y)))) (fits_both K laws gls fit f f one)
