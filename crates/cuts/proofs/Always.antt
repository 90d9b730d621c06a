-- The work never stands still: some unit is lightest, a pair meets a test or none does, groups can be taken heaviest first.
use Rattle.std.proofs.Common.{◌≡◌, ℕ, zero, suc, ◌+◌, ◌<◌, ◌≤◌, Bool, true, false, not, ◌&&◌, ◌||◌, ◌⊎◌, List, [], ◌∷◌, length, sym, refl, ap, ◌∙◌, inl, inr, ⊎_elim, arith}
use Rattle.std.proofs.lemmas.Bool.Decides.{nat_tests}
use Rattle.std.proofs.lemmas.Bool.{cases_Bool, cases_lt, and_parts, or_parts, or_cases, not-true}
use Rattle.weights.specs.Laws.{limit}
use Rattle.cuts.specs.declared.entry.Entry.{Entry}
use Rattle.cuts.specs.declared.ground.Ground.{Ground}
use Rattle.cuts.specs.declared.ground.Ground.TheVariants.{Heavy, Unbalanced, Triangle, Neighbourhood, Scan}
use Rattle.cuts.specs.Numbers.{ground_number}
use Rattle.cuts.specs.Kinds.{Kind, Lawful, AtMost}
use Rattle.cuts.specs.Links.{Link, Sound}
use Rattle.cuts.specs.Groups.{after, group, stands, count_below, degree}
use Rattle.cuts.specs.Tests.{Meets, Pair, First, None}
use Rattle.cuts.specs.Scans.{has, key, Order, Complete}
use Rattle.cuts.specs.Records.{Point, merger, best_weight, ended, merge, scanned, Work, begin, test, scan}
use Rattle.cuts.specs.Claims.{RecordExists}
use Rattle.cuts.proofs.Moves.{least_below}
use Rattle.cuts.proofs.Counts.{but, count_same, count_but}
use Rattle.cuts.proofs.Names.{stands_less}
use Rattle.cuts.proofs.Mergers.{fit_weight, length_more}
use Rattle.cuts.proofs.Facts.{sums_fit}
use Rattle.cuts.proofs.Works.{work_named}
use Rattle.cuts.proofs.Finds.{scan_merges_lem}
use Rattle.cuts.proofs.Brute.{any_below, any_true, any_false}
use Rattle.cuts.proofs.Replays.{meets, meets_sound, meets_not, pair, pair_sound, pair_from}

module _ {V : Type 0} (K : Kind V) (laws : Lawful K) (f : ℕ → V) (fit : (x : ℕ) → K.amount (f x) ≤ limit) where
  level : (x : ℕ) → AtMost K (f x) (f x)
  level x = ⊎_elim (λ h. h) (λ h. h) (laws.total (f x) (f x) (fit x) (fit x))

  -- a heaviest of those below n that pass
  heaviest : (n : ℕ) (P : ℕ → Bool) → ((m : ℕ) × (m < n) × (P m ≡ true) × ((w : ℕ) → w < n → P w ≡ true → AtMost K (f w) (f m))) ⊎ ((w : ℕ) → w < n → P w ≡ false)
  heaviest zero P = inr (λ w l. absurd (omega arith))
  heaviest (suc n) P =
      ⊎_elim
      (λ r. let (m, lm, pm, most) = r in
      ⊎_elim
      (λ (e : P n ≡ true). ⊎_elim
      (λ (h : AtMost K (f m) (f n)). inl (n, omega arith, e, λ w l pw. ⊎_elim (λ (k : w < n). laws.trans _ _ _ (fit w) (fit m) (fit n) (most w k pw) h) (λ (g : n ≤ w). let is : w ≡ n = omega arith in rw is (level n)) (cases_lt w n)))
      (λ (h : AtMost K (f n) (f m)). inl (m, omega arith, pm, λ w l pw. ⊎_elim (λ (k : w < n). most w k pw) (λ (g : n ≤ w). let is : w ≡ n = omega arith in rw is h) (cases_lt w n)))
      (laws.total (f m) (f n) (fit m) (fit n)))
      (λ (e : P n ≡ false). inl (m, omega arith, pm, λ w l pw. ⊎_elim (λ (k : w < n). most w k pw) (λ (g : n ≤ w). absurd (let is : w ≡ n = omega arith in let q = sym (ap P is) ∙ pw in grind arith)) (cases_lt w n)))
      (cases_Bool (P n)))
      (λ (none : (w : ℕ) → w < n → P w ≡ false).
      ⊎_elim
      (λ (e : P n ≡ true). inl (n, omega arith, e, λ w l pw. ⊎_elim (λ (k : w < n). absurd (let q = none w k in grind arith)) (λ (g : n ≤ w). let is : w ≡ n = omega arith in rw is (level n)) (cases_lt w n)))
      (λ (e : P n ≡ false). inr (λ w l. ⊎_elim (λ (k : w < n). none w k) (λ (g : n ≤ w). let is : w ≡ n = omega arith in ap P is ∙ e) (cases_lt w n)))
      (cases_Bool (P n)))
      (heaviest n P)

  -- a lightest below n, the lowest among equals
  lightest : (n : ℕ) → 0 < n → (u : ℕ) × (u < n) × ((w : ℕ) → w < n → AtMost K (f u) (f w)) × ((w : ℕ) → w < u → K.at_most (f w) (f u) ≡ false)
  lightest zero some = absurd (omega arith)
  lightest (suc zero) some = (0, omega arith, (λ w l. let is : w ≡ 0 = omega arith in rw is (level 0)), λ w l. absurd (omega arith))
  lightest (suc (suc n)) some = step (lightest (suc n) (omega arith))
    where
      step : (u : ℕ) × (u < suc n) × ((w : ℕ) → w < suc n → AtMost K (f u) (f w)) × ((w : ℕ) → w < u → K.at_most (f w) (f u) ≡ false) → (u : ℕ) × (u < suc (suc n)) × ((w : ℕ) → w < suc (suc n) → AtMost K (f u) (f w)) × ((w : ℕ) → w < u → K.at_most (f w) (f u) ≡ false)
      step (u, lu, least, first) =
          ⊎_elim
          (λ (h : K.at_most (f u) (f (suc n)) ≡ true). (u, omega arith, (λ w l. ⊎_elim (λ (k : w < suc n). least w k) (λ (g : suc n ≤ w). let is : w ≡ suc n = omega arith in rw is h) (cases_lt w (suc n))), first))
          (λ (h : K.at_most (f u) (f (suc n)) ≡ false).
          let less : AtMost K (f (suc n)) (f u) = ⊎_elim (λ k. absurd (grind arith)) (λ k. k) (laws.total (f u) (f (suc n)) (fit u) (fit (suc n))) in (
            suc n,
            omega arith,
            (λ w l. ⊎_elim (λ (k : w < suc n). laws.trans _ _ _ (fit (suc n)) (fit u) (fit w) less (least w k)) (λ (g : suc n ≤ w). let is : w ≡ suc n = omega arith in rw is (level (suc n))) (cases_lt w (suc n))),
            (λ w l. ⊎_elim (λ (t : K.at_most (f w) (f (suc n)) ≡ true). absurd (let q = laws.trans _ _ _ (fit u) (fit w) (fit (suc n)) (least w l) t in grind arith)) (λ t. t) (cases_Bool (K.at_most (f w) (f (suc n))))),
          ))
          (cases_Bool (K.at_most (f u) (f (suc n))))

module _ {V : Type 0} (K : Kind V) (n : ℕ) (ls : List (Link V)) (es : List Entry) (best : V) where
  -- the lowest ground whose test a pair meets, or it meets none
  lowest_ground : (u v : ℕ) → ((g : Ground) × Meets K n ls es best u v g × ((other : Ground) → Meets K n ls es best u v other → ground_number other < ground_number g → ⊥)) ⊎ ((g : Ground) → Meets K n ls es best u v g → ⊥)
  lowest_ground u v = go (meets K n ls es best u v Heavy) refl (meets K n ls es best u v Unbalanced) refl (meets K n ls es best u v Triangle) refl (meets K n ls es best u v Neighbourhood) refl
    where
      yes : (g : Ground) → meets K n ls es best u v g ≡ true → Meets K n ls es best u v g
      yes g e = meets_sound K n ls es best u v g e

      no : (g : Ground) → meets K n ls es best u v g ≡ false → Meets K n ls es best u v g → ⊥
      no g e = meets_not K n ls es best u v g e

      under : (k : ℕ) → (1 < k → Meets K n ls es best u v Heavy → ⊥) → (2 < k → Meets K n ls es best u v Unbalanced → ⊥) → (3 < k → Meets K n ls es best u v Triangle → ⊥) → (4 < k → Meets K n ls es best u v Neighbourhood → ⊥) → (other : Ground) → Meets K n ls es best u v other → ground_number other < k → ⊥
      under k a b c d Heavy m l = a l m
      under k a b c d Unbalanced m l = b l m
      under k a b c d Triangle m l = c l m
      under k a b c d Neighbourhood m l = d l m
      under k a b c d Scan m l = m

      most : (g : Ground) → ground_number g < 6
      most Heavy = omega arith
      most Unbalanced = omega arith
      most Triangle = omega arith
      most Neighbourhood = omega arith
      most Scan = omega arith

      go : (a : Bool) → meets K n ls es best u v Heavy ≡ a → (b : Bool) → meets K n ls es best u v Unbalanced ≡ b → (c : Bool) → meets K n ls es best u v Triangle ≡ c → (d : Bool) → meets K n ls es best u v Neighbourhood ≡ d
          → ((g : Ground) × Meets K n ls es best u v g × ((other : Ground) → Meets K n ls es best u v other → ground_number other < ground_number g → ⊥)) ⊎ ((g : Ground) → Meets K n ls es best u v g → ⊥)
      go true ea b eb c ec d ed = inl (Heavy, yes Heavy ea, under 1 (λ l. absurd (omega arith)) (λ l. absurd (omega arith)) (λ l. absurd (omega arith)) (λ l. absurd (omega arith)))
      go false ea true eb c ec d ed = inl (Unbalanced, yes Unbalanced eb, under 2 (λ l. no Heavy ea) (λ l. absurd (omega arith)) (λ l. absurd (omega arith)) (λ l. absurd (omega arith)))
      go false ea false eb true ec d ed = inl (Triangle, yes Triangle ec, under 3 (λ l. no Heavy ea) (λ l. no Unbalanced eb) (λ l. absurd (omega arith)) (λ l. absurd (omega arith)))
      go false ea false eb false ec true ed = inl (Neighbourhood, yes Neighbourhood ed, under 4 (λ l. no Heavy ea) (λ l. no Unbalanced eb) (λ l. no Triangle ec) (λ l. absurd (omega arith)))
      go false ea false eb false ec false ed = inr (λ g m. under 6 (λ l. no Heavy ea) (λ l. no Unbalanced eb) (λ l. no Triangle ec) (λ l. no Neighbourhood ed) g m (most g))

  -- a pair that meets some test
  unfoldable hit : ℕ → ℕ → Bool
  hit a b = pair K n ls es best a b && ((meets K n ls es best a b Heavy || meets K n ls es best a b Unbalanced) || (meets K n ls es best a b Triangle || meets K n ls es best a b Neighbourhood))

  hit_not : (a b : ℕ) → hit a b ≡ false → Pair K n ls es a b → (g : Ground) → Meets K n ls es best a b g → ⊥
  unfolding hit
  hit_not a b h is g m =
      let yes = pair_from K n ls es best a b is in
      let r : ((meets K n ls es best a b Heavy || meets K n ls es best a b Unbalanced) || (meets K n ls es best a b Triangle || meets K n ls es best a b Neighbourhood)) ≡ false = sym (ap (λ t. t && ((meets K n ls es best a b Heavy || meets K n ls es best a b Unbalanced) || (meets K n ls es best a b Triangle || meets K n ls es best a b Neighbourhood))) yes) ∙ h in
      let p = or_parts (meets K n ls es best a b Heavy || meets K n ls es best a b Unbalanced) (meets K n ls es best a b Triangle || meets K n ls es best a b Neighbourhood) r in
      let q = or_parts (meets K n ls es best a b Heavy) (meets K n ls es best a b Unbalanced) p.0 in
      let s = or_parts (meets K n ls es best a b Triangle) (meets K n ls es best a b Neighbourhood) p.1 in
      each q.0 q.1 s.0 s.1 g m
    where
      each : meets K n ls es best a b Heavy ≡ false → meets K n ls es best a b Unbalanced ≡ false → meets K n ls es best a b Triangle ≡ false → meets K n ls es best a b Neighbourhood ≡ false → (g : Ground) → Meets K n ls es best a b g → ⊥
      each p q r s Heavy m = meets_not K n ls es best a b Heavy p m
      each p q r s Unbalanced m = meets_not K n ls es best a b Unbalanced q m
      each p q r s Triangle m = meets_not K n ls es best a b Triangle r m
      each p q r s Neighbourhood m = meets_not K n ls es best a b Neighbourhood s m
      each p q r s Scan m = m

  hit_some : (a b : ℕ) → hit a b ≡ true → Pair K n ls es a b × ((g : Ground) × Meets K n ls es best a b g)
  unfolding hit
  hit_some a b h =
      let p = and_parts (pair K n ls es best a b) _ h in (
        pair_sound K n ls es best a b p.0,
        ⊎_elim
            (λ q. ⊎_elim (λ e. (Heavy, meets_sound K n ls es best a b Heavy e)) (λ e. (Unbalanced, meets_sound K n ls es best a b Unbalanced e)) (or_cases (meets K n ls es best a b Heavy) (meets K n ls es best a b Unbalanced) q))
            (λ q. ⊎_elim (λ e. (Triangle, meets_sound K n ls es best a b Triangle e)) (λ e. (Neighbourhood, meets_sound K n ls es best a b Neighbourhood e)) (or_cases (meets K n ls es best a b Triangle) (meets K n ls es best a b Neighbourhood) q))
            (or_cases (meets K n ls es best a b Heavy || meets K n ls es best a b Unbalanced) (meets K n ls es best a b Triangle || meets K n ls es best a b Neighbourhood) p.1),
      )

  -- the first pair that meets a test, or none does
  first_or_none : ((u v : ℕ) × ((ground : Ground) × First K n ls es best u v ground)) ⊎ None K n ls es best
  first_or_none =
      ⊎_elim
      (λ r. let (u, lu, row, above) = r in
      ⊎_elim
      (λ q. let (v, lv, here, before) = q in inl (u, v, at u v here above before))
      (λ none. absurd (let (b, lb, e) = any_true n (hit u) row in let k = none b lb in grind arith))
      (least_below n (hit u)))
      (λ none. inr (λ a b is g m. hit_not a b (any_false n (hit a) (none a (stands_less n es a is.0)) b (stands_less n es b is.1)) is g m))
      (least_below n (λ a. any_below n (hit a)))
    where
      at : (u v : ℕ) → hit u v ≡ true → ((y : ℕ) → y < u → any_below n (hit y) ≡ false) → ((y : ℕ) → y < v → hit u y ≡ false) → (ground : Ground) × First K n ls es best u v ground
      at u v here above before =
          let (is, some) = hit_some u v here in
          ⊎_elim
          (λ l. (
            l.0,
            record {
              pair = is;
              meets = l.1;
              lowest = l.2;
              earlier = λ a b ab. ⊎_elim
                  (λ (less : a < u). hit_not a b (any_false n (hit a) (above a less) b (stands_less n es b ab.1)) ab)
                  (λ same. hit_not a b (ap (λ x. hit x b) same.0 ∙ before b same.1) ab);
            },
          ))
          (λ none. absurd (none some.0 some.1))
          (lowest_ground u v)

module _ {V : Type 0} (K : Kind V) (laws : Lawful K) (n : ℕ) (ls : List (Link V)) (sound : Sound K n ls) where
  key_fits : (es : List Entry) (taken : List ℕ) (w : ℕ) → K.amount (key K n ls es taken w) ≤ limit
  key_fits es taken w = omega (arith, sums_fit K laws n ls sound (λ x y. (has taken (after es x) && group es w y) || (group es w x && has taken (after es y))) (λ x y. false))

  -- groups that wait
  abbrev waits : List Entry → List ℕ → ℕ → Bool
  waits es taken w = stands n es w && not (has taken w)

  order_from : (es : List Entry) (fuel : ℕ) (taken : List ℕ) → Order K n ls es taken → count_below n (waits es taken) ≤ fuel → (all : List ℕ) × Order K n ls es all × Complete K n ls es all
  order_from es zero taken order few = (taken, order, λ w st. ⊎_elim (λ t. t) (λ (f : has taken w ≡ false). absurd (let c = count_but n (waits es taken) w (stands_less n es w st) (rw (st, f)) in omega arith)) (cases_Bool (has taken w)))
  order_from es (suc fuel) taken order few =
      ⊎_elim
      (λ r. let (m, lm, pm, most) = r in
      let q = and_parts (stands n es m) (not (has taken m)) pm in
      let c = count_but n (waits es taken) m lm pm in
      let e = count_same n (waits es (m ∷ taken)) (but (waits es taken) m) (λ x l. grind (arith, nat_tests)) in
      order_from es fuel (m ∷ taken) (q.0, not-true (has taken m) q.1, (λ w st out. most w (stands_less n es w st) (rw (st, out))), order) (omega arith))
      (λ none. (taken, order, λ w st. ⊎_elim (λ t. t) (λ (f : has taken w ≡ false). absurd (let k = none w (stands_less n es w st) in grind arith)) (cases_Bool (has taken w))))
      (heaviest K laws (key K n ls es taken) (key_fits es taken) n (waits es taken))

  order_exists : (es : List Entry) → (all : List ℕ) × Order K n ls es all × Complete K n ls es all
  order_exists es = order_from es (count_below n (waits es [])) [] tt (omega arith)

  -- work that has not ended goes on to a point with more mergers
  goes_further : 2 ≤ n → (p : Point) → Work K n ls p → ended K n ls p ≡ false → (q : Point) × Work K n ls q × (length p.done < length q.done)
  goes_further two p w on =
      ⊎_elim
      (λ r. let (u, v, by) = r in
      (merge K n ls p (merger u v by.0 0), test w on u v by.0 by.1, omega (arith, length_more p.done (merger u v by.0 0))))
      (λ none. let (all, order, complete) = order_exists p.done in
      (scanned K n ls all p, scan w on none all order complete, scan_merges_lem K laws n ls sound two p w on all order complete))
      (first_or_none K n ls p.done (best_weight K n ls p))

  ends_from : 2 ≤ n → (fuel : ℕ) (p : Point) → Work K n ls p → n ≤ length p.done + fuel → (q : Point) × Work K n ls q × (ended K n ls q ≡ true)
  ends_from two zero p w room = absurd (omega (arith, (work_named K laws n ls sound two w).2))
  ends_from two (suc fuel) p w room =
      ⊎_elim (λ (over : ended K n ls p ≡ true). (p, w, over))
      (λ (on : ended K n ls p ≡ false). let r = goes_further two p w on in ends_from two fuel r.0 r.1 (omega (arith, r.2)))
      (cases_Bool (ended K n ls p))

pub record_exists_lem : {V : Type 0} (K : Kind V) → Lawful K → RecordExists K
record_exists_lem K laws n ls sound two =
    let (u, lu, least, first) = lightest K laws (degree K ls []) (λ g. fit_weight K laws n ls sound (group [] g)) n (omega arith) in
    ends_from K laws n ls sound two n (record { done = []; best = group [] u; scans = 0 }) (begin u (record { unit = lu; least = least; first = first })) (omega arith)
