-- From plain sums over the links of a plan to weighing by rules, over the links between groups.
use Rattle.std.proofs.Common.{◌≡◌, ℕ, zero, suc, ◌+◌, ◌≤◌, Bool, true, false, cond, ◌&&◌, ◌||◌, eqb, ltb, List, [], ◌∷◌, sym, refl, ap, ◌∙◌, ap₂, arith}
use Rattle.std.proofs.lemmas.Bool.Decides.{nat_tests}
use Rattle.std.proofs.lemmas.Bool.{lt-ltb}
use Rattle.weights.specs.Laws.{limit}
use Rattle.cuts.specs.declared.entry.Entry.{Entry}
use Rattle.cuts.specs.Kinds.{Kind, Lawful, lesser}
use Rattle.cuts.specs.Links.{Link, sum, load, Ends, Sound}
use Rattle.cuts.specs.Divisions.{only, differ, weight_of, between}
use Rattle.cuts.specs.Groups.{after, group, degree, joint}
use Rattle.cuts.specs.Tests.{third, gathered}
use Rattle.cuts.specs.Scans.{has, key}
use Rattle.cuts.proofs.Rules.{times, weigh, heft, apart, both, cuts, into, relabel, Over, cut, deg, pull, tie}
use Rattle.cuts.proofs.Sums.{right, fits, weigh_same, weigh_relabel, heft_relabel}
use Rattle.cuts.proofs.Neighbours.{gather}

-- the links in service, as two ends and a weight
unfoldable pub served : {V : Type 0} → List (Link V) → List (ℕ × ℕ × V)
served [] = []
served (l ∷ ls) = cond l.in_service ((l.first, l.second, l.weight) ∷ served ls) (served ls)

-- 1 where the test holds
abbrev pub once : (ℕ → ℕ → Bool) → ℕ → ℕ → ℕ
once test x y = cond (test x y) 1 0

pub served_load : {V : Type 0} (K : Kind V) (ls : List (Link V)) → load K ls ≡ heft K (served ls)
unfolding load served heft
served_load K [] = refl
served_load K (l ∷ ls) = go l.in_service (served_load K ls)
  where
    go : (b : Bool) → load K ls ≡ heft K (served ls) → cond b (K.amount l.weight) 0 + load K ls ≡ heft K (cond b ((l.first, l.second, l.weight) ∷ served ls) (served ls))
    go true ih = ap (λ k. K.amount l.weight + k) ih
    go false ih = omega arith

pub served_over : {V : Type 0} (n : ℕ) (ls : List (Link V)) → Ends n ls → Over (λ x. ltb x n) (served ls)
unfolding served Ends
served_over n [] e = tt
served_over n (l ∷ ls) e = go l.in_service (served_over n ls e.2)
  where
    go : (b : Bool) → Over (λ x. ltb x n) (served ls) → Over (λ x. ltb x n) (cond b ((l.first, l.second, l.weight) ∷ served ls) (served ls))
    go true ih = (lt-ltb _ _ e.0, lt-ltb _ _ e.1, ih)
    go false ih = ih

module _ {V : Type 0} (K : Kind V) (laws : Lawful K) where
  one_time : (n : ℕ) (w r : V) → n ≡ 1 → K.amount w ≤ limit → K.plus (times K n w) r ≡ K.plus w r
  unfolding times
  one_time n w r e h = ap (λ k. K.plus (times K k w) r) e ∙ ap (λ a. K.plus a r) (right K laws w h)

  no_time : (n : ℕ) (w r : V) → n ≡ 0 → K.amount r ≤ limit → K.plus (times K n w) r ≡ r
  unfolding times
  no_time n w r e h = ap (λ k. K.plus (times K k w) r) e ∙ laws.neutral r h

  -- a plain sum is what its test weighs as a rule
  sum_served : (test : ℕ → ℕ → Bool) (ls : List (Link V)) → heft K (served ls) + heft K (served ls) ≤ limit → sum K test ls ≡ weigh K (served ls) (once test)
  unfolding sum served weigh heft
  sum_served test [] light = refl
  sum_served test (l ∷ ls) light = go l.in_service (test l.first l.second) refl light (sum_served test ls)
    where
      go : (b t : Bool) → test l.first l.second ≡ t
          → heft K (cond b ((l.first, l.second, l.weight) ∷ served ls) (served ls)) + heft K (cond b ((l.first, l.second, l.weight) ∷ served ls) (served ls)) ≤ limit
          → (heft K (served ls) + heft K (served ls) ≤ limit → sum K test ls ≡ weigh K (served ls) (once test))
          → cond (b && t) (K.plus l.weight (sum K test ls)) (sum K test ls) ≡ weigh K (cond b ((l.first, l.second, l.weight) ∷ served ls) (served ls)) (once test)
      go true true e fit ih = ap (K.plus l.weight) (ih (omega arith)) ∙ sym (one_time (once test l.first l.second) l.weight (weigh K (served ls) (once test)) (ap (λ b. cond b 1 0) e) (omega arith))
      go true false e fit ih = ih (omega arith) ∙ sym (no_time (once test l.first l.second) l.weight (weigh K (served ls) (once test)) (ap (λ b. cond b 1 0) e) (fits K laws (served ls) (omega arith) (once test) (λ x y. grind (arith, nat_tests))))
      go false t e fit ih = ih (omega arith)

differ_apart : (a b : Bool) → cond (differ a b) 1 0 ≡ apart a b
differ_apart true true = refl
differ_apart true false = refl
differ_apart false true = refl
differ_apart false false = refl

between_into : (T : ℕ → Bool) (w x y : ℕ) → T w ≡ false → cond ((T x && eqb y w) || (eqb x w && T y)) 1 0 ≡ both (T x) (eqb y w) + both (eqb x w) (T y)
between_into T w x y out = grind (arith, nat_tests)

-- the links between the groups after some mergers
abbrev pub links_at : {V : Type 0} → List (Link V) → List Entry → List (ℕ × ℕ × V)
links_at ls es = relabel (after es) (served ls)

module _ {V : Type 0} (K : Kind V) (laws : Lawful K) (n : ℕ) (ls : List (Link V)) (sound : Sound K n ls) where
  pub light : heft K (served ls) + heft K (served ls) ≤ limit
  light = rw (served_load K ls) at sound.light

  pub light_at : (es : List Entry) → heft K (links_at ls es) + heft K (links_at ls es) ≤ limit
  light_at es = rw (heft_relabel K (after es) (served ls)) light

  pub weight_cut : (S : ℕ → Bool) → weight_of K ls S ≡ cut K (served ls) S
  weight_cut S = sum_served K laws (λ x y. differ (S x) (S y)) ls light ∙ weigh_same K (served ls) _ (cuts S) (λ x y. differ_apart (S x) (S y))

  pub degree_deg : (es : List Entry) (g : ℕ) → degree K ls es g ≡ deg K (links_at ls es) g
  degree_deg es g = weight_cut (group es g) ∙ sym (weigh_relabel K (served ls) (after es) (cuts (only g)))

  pub between_pull : (es : List Entry) (T : ℕ → Bool) (w : ℕ) → T w ≡ false → between K ls (λ x. T (after es x)) (group es w) ≡ pull K (links_at ls es) T w
  between_pull es T w out =
      sum_served K laws (λ x y. (T (after es x) && eqb (after es y) w) || (eqb (after es x) w && T (after es y))) ls light
      ∙ weigh_same K (served ls) _ (λ x y. into T w (after es x) (after es y)) (λ x y. between_into T w (after es x) (after es y) out)
      ∙ sym (weigh_relabel K (served ls) (after es) (into T w))

  pub joint_tie : (es : List Entry) (u v : ℕ) → (u ≡ v → ⊥) → joint K ls es u v ≡ tie K (links_at ls es) u v
  joint_tie es u v apart = between_pull es (only u) v (grind (arith, nat_tests))

  pub key_pull : (es : List Entry) (taken : List ℕ) (w : ℕ) → has taken w ≡ false → key K n ls es taken w ≡ pull K (links_at ls es) (has taken) w
  key_pull es taken w out = between_pull es (has taken) w out

  pub gathered_gather : (es : List Entry) (u v k : ℕ) → (u ≡ v → ⊥) → gathered K n ls es u v k ≡ gather K (links_at ls es) (third n es u v) u v k
  gathered_gather es u v zero apart = joint_tie es u v apart
  gathered_gather es u v (suc k) apart = go (third n es u v k) refl (gathered_gather es u v k apart)
    where
      go : (b : Bool) → third n es u v k ≡ b → gathered K n ls es u v k ≡ gather K (links_at ls es) (third n es u v) u v k
          → cond b (K.plus (gathered K n ls es u v k) (lesser K (joint K ls es u k) (joint K ls es v k))) (gathered K n ls es u v k)
          ≡ cond b (K.plus (gather K (links_at ls es) (third n es u v) u v k) (lesser K (tie K (links_at ls es) u k) (tie K (links_at ls es) v k))) (gather K (links_at ls es) (third n es u v) u v k)
      go true e ih =
          let uk : u ≡ k → ⊥ = grind (arith, nat_tests) in
          let vk : v ≡ k → ⊥ = grind (arith, nat_tests) in
          ap₂ K.plus ih (ap₂ (lesser K) (joint_tie es u k uk) (joint_tie es v k vk))
      go false e ih = ih
