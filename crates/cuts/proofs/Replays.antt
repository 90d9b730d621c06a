-- A record replayed: each step tested by computation, so that a point reached is one that the work allows.
use Rattle.std.proofs.Common.{◌≡◌, ℕ, ◌<◌, Bool, true, false, not, ◌&&◌, ◌||◌, eqb, ltb, leb, List, [], ◌∷◌, refl, inl, inr, ⊎_elim, arith}
use Rattle.std.proofs.lemmas.Bool.Decides.{nat_tests}
use Rattle.std.proofs.lemmas.Bool.{and_parts, and_cases, or_cases, or_parts, not-true, ltb-true}
use Rattle.cuts.specs.declared.entry.Entry.{Entry}
use Rattle.cuts.specs.declared.ground.Ground.{Ground}
use Rattle.cuts.specs.declared.ground.Ground.TheVariants.{Heavy, Unbalanced, Triangle, Neighbourhood, Scan}
use Rattle.cuts.specs.Numbers.{ground_number}
use Rattle.cuts.specs.Kinds.{Kind, above}
use Rattle.cuts.specs.Links.{Link}
use Rattle.cuts.specs.Groups.{group, stands, degree, joint}
use Rattle.cuts.specs.Tests.{third, twice, gathered, Meets, Pair, First}
use Rattle.cuts.specs.Scans.{has, key, Order, Complete}
use Rattle.cuts.specs.Records.{Point, merger, Lightest, best_weight, ended, merge, scanned, Work, begin, test, scan}
use Rattle.cuts.proofs.Names.{stands_less}
use Rattle.cuts.proofs.Brute.{all_below, all_true, any_below, any_true, any_false}

-- a step of the work: the pair that met a test, or the order in which a scan took the groups
pub data Step : Type 0 where
  tested : ℕ → ℕ → Ground → Step
  scanning : List ℕ → Step

module _ {V : Type 0} (K : Kind V) (n : ℕ) (ls : List (Link V)) (es : List Entry) (best : V) where
  unfoldable pub meets : ℕ → ℕ → Ground → Bool
  meets u v Heavy = K.at_most best (joint K ls es u v)
  meets u v Unbalanced = K.at_most (degree K ls es u) (twice K n ls es (joint K ls es u v)) || K.at_most (degree K ls es v) (twice K n ls es (joint K ls es u v))
  meets u v Triangle =
      any_below n (λ w. third n es u v w
      && (K.at_most (degree K ls es u) (twice K n ls es (K.plus (joint K ls es u v) (joint K ls es u w)))
      && K.at_most (degree K ls es v) (twice K n ls es (K.plus (joint K ls es u v) (joint K ls es v w)))))
  meets u v Neighbourhood = K.at_most best (gathered K n ls es u v n)
  meets u v Scan = false

  pub meets_sound : (u v : ℕ) (ground : Ground) → meets u v ground ≡ true → Meets K n ls es best u v ground
  unfolding meets
  meets_sound u v Heavy h = h
  meets_sound u v Unbalanced h = or_cases _ _ h
  meets_sound u v Triangle h =
      let (w, l, e) = any_true n _ h in
      let p = and_parts (third n es u v w) _ e in
      let q = and_parts (K.at_most (degree K ls es u) (twice K n ls es (K.plus (joint K ls es u v) (joint K ls es u w)))) _ p.1 in
      (w, p.0, q.0, q.1)
  meets_sound u v Neighbourhood h = h
  meets_sound u v Scan h = absurd (grind arith)

  pub meets_not : (u v : ℕ) (ground : Ground) → meets u v ground ≡ false → Meets K n ls es best u v ground → ⊥
  unfolding meets
  meets_not u v Heavy h m = grind arith
  meets_not u v Unbalanced h (inl m) = let r = or_parts (K.at_most (degree K ls es u) (twice K n ls es (joint K ls es u v))) (K.at_most (degree K ls es v) (twice K n ls es (joint K ls es u v))) h in grind arith
  meets_not u v Unbalanced h (inr m) = let r = or_parts (K.at_most (degree K ls es u) (twice K n ls es (joint K ls es u v))) (K.at_most (degree K ls es v) (twice K n ls es (joint K ls es u v))) h in grind arith
  meets_not u v Triangle h (w, t, p, q) =
      let l : w < n = grind (arith, nat_tests) in
      let e = any_false n _ h w l in
      ⊎_elim (λ (a : third n es u v w ≡ false). grind arith)
      (λ a. ⊎_elim (λ (b : K.at_most (degree K ls es u) (twice K n ls es (K.plus (joint K ls es u v) (joint K ls es u w))) ≡ false). grind arith)
      (λ (b : K.at_most (degree K ls es v) (twice K n ls es (K.plus (joint K ls es u v) (joint K ls es v w))) ≡ false). grind arith) (and_cases _ _ a))
      (and_cases (third n es u v w) _ e)
  meets_not u v Neighbourhood h m = grind arith
  meets_not u v Scan h m = m

  unfoldable pub pair : ℕ → ℕ → Bool
  pair u v = (stands n es u && stands n es v) && (ltb u v && above K (joint K ls es u v))

  pub pair_sound : (u v : ℕ) → pair u v ≡ true → Pair K n ls es u v
  unfolding pair
  pair_sound u v h =
      let p = and_parts (stands n es u && stands n es v) _ h in
      let q = and_parts (stands n es u) (stands n es v) p.0 in
      let r = and_parts (ltb u v) (above K (joint K ls es u v)) p.1 in
      (q.0, q.1, ltb-true u v r.0, r.1)

  pub pair_from : (u v : ℕ) → Pair K n ls es u v → pair u v ≡ true
  unfolding pair
  pair_from u v (p, q, r, s) = let t : ltb u v ≡ true = grind (arith, nat_tests) in rw (p, q, t, s)

  -- the pair does not meet the test, or the ground is not below k
  unfoldable pub free : ℕ → ℕ → ℕ → Ground → Bool
  free k u v ground = leb k (ground_number ground) || not (meets u v ground)

  free_not : (k u v : ℕ) (ground : Ground) → free k u v ground ≡ true → ground_number ground < k → Meets K n ls es best u v ground → ⊥
  unfolding free
  free_not k u v ground h l m =
      ⊎_elim (λ (t : leb k (ground_number ground) ≡ true). grind (arith, nat_tests)) (λ t. meets_not u v ground (not-true (meets u v ground) t) m) (or_cases (leb k (ground_number ground)) (not (meets u v ground)) h)

  -- the pair meets no test of a ground below k
  unfoldable pub none_under : ℕ → ℕ → ℕ → Bool
  none_under k u v = (free k u v Heavy && free k u v Unbalanced) && (free k u v Triangle && free k u v Neighbourhood)

  none_sound : (k u v : ℕ) → none_under k u v ≡ true → (ground : Ground) → Meets K n ls es best u v ground → ground_number ground < k → ⊥
  unfolding none_under
  none_sound k u v h ground m l =
      let p = and_parts (free k u v Heavy && free k u v Unbalanced) (free k u v Triangle && free k u v Neighbourhood) h in
      let q = and_parts (free k u v Heavy) (free k u v Unbalanced) p.0 in
      let r = and_parts (free k u v Triangle) (free k u v Neighbourhood) p.1 in
      each q.0 q.1 r.0 r.1 ground m l
    where
      each : free k u v Heavy ≡ true → free k u v Unbalanced ≡ true → free k u v Triangle ≡ true → free k u v Neighbourhood ≡ true → (ground : Ground) → Meets K n ls es best u v ground → ground_number ground < k → ⊥
      each a b c d Heavy m l = free_not k u v Heavy a l m
      each a b c d Unbalanced m l = free_not k u v Unbalanced b l m
      each a b c d Triangle m l = free_not k u v Triangle c l m
      each a b c d Neighbourhood m l = free_not k u v Neighbourhood d l m
      each a b c d Scan m l = m

  -- no pair of those that the test lets through meets a test
  unfoldable pub none_of : (ℕ → ℕ → Bool) → Bool
  none_of p = all_below n (λ a. all_below n (λ b. not (pair a b && p a b) || none_under 5 a b))

  none_of_sound : (p : ℕ → ℕ → Bool) → none_of p ≡ true → (a b : ℕ) → Pair K n ls es a b → p a b ≡ true → (ground : Ground) → Meets K n ls es best a b ground → ⊥
  unfolding none_of
  none_of_sound p h a b is let_through ground m =
      let here = all_true n _ (all_true n _ h a (stands_less n es a is.0)) b (stands_less n es b is.1) in
      let yes = pair_from a b is in
      ⊎_elim (λ (e : not (pair a b && p a b) ≡ true). let k = not-true (pair a b && p a b) e in grind arith)
      (λ (e : none_under 5 a b ≡ true). each ground e m)
      (or_cases (not (pair a b && p a b)) (none_under 5 a b) here)
    where
      each : (ground : Ground) → none_under 5 a b ≡ true → Meets K n ls es best a b ground → ⊥
      each Heavy e m = none_sound 5 a b e Heavy m (omega arith)
      each Unbalanced e m = none_sound 5 a b e Unbalanced m (omega arith)
      each Triangle e m = none_sound 5 a b e Triangle m (omega arith)
      each Neighbourhood e m = none_sound 5 a b e Neighbourhood m (omega arith)
      each Scan e m = m

  unfoldable pub before : ℕ → ℕ → ℕ → ℕ → Bool
  before u v a b = ltb a u || (eqb a u && ltb b v)

  unfoldable pub first_by_trial : ℕ → ℕ → Ground → Bool
  first_by_trial u v ground = (pair u v && meets u v ground) && (none_under (ground_number ground) u v && none_of (before u v))

  first_sound : (u v : ℕ) (ground : Ground) → first_by_trial u v ground ≡ true → First K n ls es best u v ground
  unfolding first_by_trial before
  first_sound u v ground h =
      let p = and_parts (pair u v && meets u v ground) _ h in
      let q = and_parts (pair u v) (meets u v ground) p.0 in
      let r = and_parts (none_under (ground_number ground) u v) (none_of (before u v)) p.1 in
      record {
        pair = pair_sound u v q.0;
        meets = meets_sound u v ground q.1;
        lowest = none_sound (ground_number ground) u v r.0;
        earlier = λ a b is why. none_of_sound (before u v) r.1 a b is (⊎_elim (λ (l : a < u). grind (arith, nat_tests)) (λ e. let i = e.0 in let j = e.1 in grind (arith, nat_tests)) why);
      }

  unfoldable pub order_by_trial : List ℕ → Bool
  order_by_trial [] = true
  order_by_trial (v ∷ taken) =
      ((stands n es v && not (has taken v)) && all_below n (λ w. not (stands n es w && not (has taken w)) || K.at_most (key K n ls es taken w) (key K n ls es taken v))) && order_by_trial taken

  order_sound : (taken : List ℕ) → order_by_trial taken ≡ true → Order K n ls es taken
  unfolding order_by_trial
  order_sound [] h = tt
  order_sound (v ∷ taken) h =
      let p = and_parts _ (order_by_trial taken) h in
      let q = and_parts (stands n es v && not (has taken v)) _ p.0 in
      let r = and_parts (stands n es v) (not (has taken v)) q.0 in (
        r.0,
        not-true (has taken v) r.1,
        (λ w st out.
            let here = all_true n _ q.1 w (stands_less n es w st) in
            ⊎_elim (λ (e : not (stands n es w && not (has taken w)) ≡ true). absurd (let k = not-true (stands n es w && not (has taken w)) e in grind arith)) (λ e. e)
            (or_cases (not (stands n es w && not (has taken w))) (K.at_most (key K n ls es taken w) (key K n ls es taken v)) here)),
        order_sound taken p.1,
      )

  unfoldable pub complete_by_trial : List ℕ → Bool
  complete_by_trial taken = all_below n (λ w. not (stands n es w) || has taken w)

  complete_sound : (taken : List ℕ) → complete_by_trial taken ≡ true → Complete K n ls es taken
  unfolding complete_by_trial
  complete_sound taken h w st =
      ⊎_elim (λ (e : not (stands n es w) ≡ true). absurd (let k = not-true (stands n es w) e in grind arith)) (λ e. e)
      (or_cases (not (stands n es w)) (has taken w) (all_true n _ h w (stands_less n es w st)))

module _ {V : Type 0} (K : Kind V) (n : ℕ) (ls : List (Link V)) where
  unfoldable pub lightest_by_trial : ℕ → Bool
  lightest_by_trial u = ltb u n && (all_below n (λ w. K.at_most (degree K ls [] u) (degree K ls [] w)) && all_below u (λ w. not (K.at_most (degree K ls [] w) (degree K ls [] u))))

  lightest_sound : (u : ℕ) → lightest_by_trial u ≡ true → Lightest K n ls u
  unfolding lightest_by_trial
  lightest_sound u h =
      let p = and_parts (ltb u n) _ h in
      let q = and_parts (all_below n (λ w. K.at_most (degree K ls [] u) (degree K ls [] w))) _ p.1 in
      record { unit = ltb-true u n p.0; least = all_true n _ q.0; first = λ w l. not-true _ (all_true u _ q.1 w l) }

  -- whether a step is allowed, and where it leads
  unfoldable pub allowed : Step → Point → Bool
  allowed (tested u v ground) p = not (ended K n ls p) && first_by_trial K n ls p.done (best_weight K n ls p) u v ground
  allowed (scanning taken) p = (not (ended K n ls p) && none_of K n ls p.done (best_weight K n ls p) (λ a b. true)) && (order_by_trial K n ls p.done (best_weight K n ls p) taken && complete_by_trial K n ls p.done (best_weight K n ls p) taken)

  unfoldable pub after_step : Step → Point → Point
  after_step (tested u v ground) p = merge K n ls p (merger u v ground 0)
  after_step (scanning taken) p = scanned K n ls taken p

  step_sound : (s : Step) (p : Point) → allowed s p ≡ true → Work K n ls p → Work K n ls (after_step s p)
  unfolding allowed after_step
  step_sound (tested u v ground) p h w =
      let q = and_parts (not (ended K n ls p)) _ h in
      test w (not-true _ q.0) u v ground (first_sound K n ls p.done (best_weight K n ls p) u v ground q.1)
  step_sound (scanning taken) p h w =
      let q = and_parts (not (ended K n ls p) && none_of K n ls p.done (best_weight K n ls p) (λ a b. true)) _ h in
      let r = and_parts (not (ended K n ls p)) _ q.0 in
      let s = and_parts (order_by_trial K n ls p.done (best_weight K n ls p) taken) _ q.1 in
      scan w (not-true _ r.0) (λ a b is ground m. none_of_sound K n ls p.done (best_weight K n ls p) (λ a b. true) r.1 a b is refl ground m) taken
      (order_sound K n ls p.done (best_weight K n ls p) taken s.0) (complete_sound K n ls p.done (best_weight K n ls p) taken s.1)

  -- all steps are allowed, and where they lead
  unfoldable pub all_allowed : List Step → Point → Bool
  all_allowed [] p = true
  all_allowed (s ∷ ss) p = allowed s p && all_allowed ss (after_step s p)

  unfoldable pub replayed : List Step → Point → Point
  replayed [] p = p
  replayed (s ∷ ss) p = replayed ss (after_step s p)

  steps_sound : (ss : List Step) (p : Point) → all_allowed ss p ≡ true → Work K n ls p → Work K n ls (replayed ss p)
  unfolding all_allowed replayed
  steps_sound [] p h w = w
  steps_sound (s ∷ ss) p h w = let r = and_parts (allowed s p) _ h in steps_sound ss (after_step s p) r.1 (step_sound s p r.0 w)

  unfoldable pub first_point : ℕ → Point
  first_point u = record { done = []; best = group [] u; scans = 0 }

  pub replay_sound : (u : ℕ) (ss : List Step) → (lightest_by_trial u && all_allowed ss (first_point u)) ≡ true → Work K n ls (replayed ss (first_point u))
  unfolding first_point
  replay_sound u ss h =
      let r = and_parts (lightest_by_trial u) _ h in
      steps_sound ss (first_point u) r.1 (begin u (lightest_sound u r.0))
