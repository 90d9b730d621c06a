-- The work loses nothing: each of its mergers is of a pair that may be merged.
use Rattle.std.proofs.Common.{◌≡◌, ℕ, zero, suc, ◌+◌, ◌<◌, ◌≤◌, min, max, Bool, true, false, cond, not, ◌||◌, eqb, leb, ◌⊎◌, List, [], ◌∷◌, ◌++◌, length, sym, refl, ap, ◌∙◌, inl, inr, ⊎_elim, arith}
use Rattle.std.proofs.lemmas.Bool.Decides.{nat_tests}
use Rattle.std.proofs.lemmas.Bool.{cases_lt, eqb-false, or_parts, or_cases, leb-true, leb-false}
use Rattle.weights.specs.Laws.{limit}
use Rattle.cuts.specs.declared.entry.Entry.{Entry}
use Rattle.cuts.specs.declared.ground.Ground.{Ground}
use Rattle.cuts.specs.declared.ground.Ground.TheVariants.{Scan}
use Rattle.cuts.specs.Kinds.{Kind, Lawful, AtMost, above}
use Rattle.cuts.specs.Links.{Link, Sound}
use Rattle.cuts.specs.Divisions.{weight_of}
use Rattle.cuts.specs.Groups.{after, group, stands, Whole, Joins, degree}
use Rattle.cuts.specs.Scans.{has, key, Order, finds, found, raised}
use Rattle.cuts.specs.Records.{Point, merger, best_weight, ended, better, merge, merge_found, next_scan, Work, begin, test, scan}
use Rattle.cuts.specs.Claims.{LosesNothing, RecordLeast}
use Rattle.cuts.proofs.Names.{Named, merged, after_more, named, lands, stands_less, whole_own, own_whole}
use Rattle.cuts.proofs.Grounds.{grounds_safe, order_safe}
use Rattle.cuts.proofs.Mergers.{Merged, single, more, fit_weight, at_least, through, better_old, merged_joins, best_present}
use Rattle.cuts.proofs.Ends.{merged_weakest, merged_points}

either_way : (a b : ℕ) → (a ≡ b → ⊥) → ((min a b ≡ a) × (max a b ≡ b)) ⊎ ((min a b ≡ b) × (max a b ≡ a))
either_way a b apart = ⊎_elim (λ (l : a < b). inl (omega arith, omega arith)) (λ (g : b ≤ a). inr (omega arith, omega arith)) (cases_lt a b)

min_less : (a b : ℕ) → (a ≡ b → ⊥) → min a b < max a b
min_less a b apart = ⊎_elim (λ (l : a < b). omega arith) (λ (g : b ≤ a). omega arith) (cases_lt a b)

abbrev pub Each : {A : Type 0} → (A → Type 0) → List A → Type 0
Each P [] = Unit
Each P (x ∷ xs) = P x × Each P xs

pub each_append : {A : Type 0} (P : A → Type 0) (xs ys : List A) → Each P xs → Each P ys → Each P (xs ++ ys)
each_append P [] ys h k = k
each_append P (x ∷ xs) ys h k = (h.0, each_append P xs ys h.1 k)

module _ {V : Type 0} (K : Kind V) (laws : Lawful K) (n : ℕ) (ls : List (Link V)) (sound : Sound K n ls) where
  -- work that has not ended: more than two groups are left, and best is above nothing
  pub goes_on : (p : Point) → ended K n ls p ≡ false → (length p.done + 2 < n) × (K.at_most (best_weight K n ls p) K.nothing ≡ false)
  goes_on p h =
      let r = or_parts (leb n (length p.done + 2)) (not (above K (best_weight K n ls p))) h in
      (leb-false _ _ r.0, go (K.at_most (best_weight K n ls p) K.nothing) r.1)
    where
      go : (b : Bool) → not (cond b false true) ≡ false → b ≡ false
      go true e = absurd (grind arith)
      go false e = refl

  pub is_over : (p : Point) → ended K n ls p ≡ true → (n ≤ length p.done + 2) ⊎ AtMost K (best_weight K n ls p) K.nothing
  is_over p h =
      ⊎_elim (λ e. inl (leb-true _ _ e)) (λ e. inr (go (K.at_most (best_weight K n ls p) K.nothing) e))
      (or_cases (leb n (length p.done + 2)) (not (above K (best_weight K n ls p))) h)
    where
      go : (b : Bool) → not (cond b false true) ≡ true → b ≡ true
      go true e = refl
      go false e = absurd (grind arith)

  -- what a scan finds: two groups that no division lighter than the bound parts
  pub record Finding (es : List Entry) (bound : V) (f : ℕ × ℕ) : Type 0 where
    pub one : stands n es f.0 ≡ true
    pub other : stands n es f.1 ≡ true
    pub apart : f.0 ≡ f.1 → ⊥
    pub parted : (S : ℕ → Bool) → Whole n es S → (S f.0 ≡ S f.1 → ⊥) → AtMost K bound (weight_of K ls S)

  module _ (es : List Entry) (joins : Joins n [] es) (bound : V) (fit : K.amount bound ≤ limit) where
    finds_each : (v : ℕ) (taken : List ℕ) → Order K n ls es (v ∷ taken) → (k : ℕ) → Each (Finding es bound) (finds K n ls es bound v taken k)
    finds_each v taken order zero = tt
    finds_each v taken order (suc k) =
        each_append (Finding es bound) (finds K n ls es bound v taken k) _ (finds_each v taken order k) (go (raised K n ls es bound v taken k) refl)
      where
        here : raised K n ls es bound v taken k ≡ true → Finding es bound (v, k)
        here h =
            let out : has (v ∷ taken) k ≡ false = grind (arith, nat_tests) in
            let comes : AtMost K bound (key K n ls es (v ∷ taken) k) = grind (arith, nat_tests) in
            let stood : stands n es k ≡ true = grind (arith, nat_tests) in
            record {
              one = order.0;
              other = stood;
              apart = grind (arith, nat_tests);
              parted = λ S whole parted. order_safe K laws n ls sound es joins bound fit v taken order k stood out comes S whole parted;
            }

        go : (b : Bool) → raised K n ls es bound v taken k ≡ b → Each (Finding es bound) (cond b ((v, k) ∷ []) [])
        go true e = (here e, tt)
        go false e = tt

    pub found_each : (taken : List ℕ) → Order K n ls es taken → Each (Finding es bound) (found K n ls es bound taken)
    found_each [] order = tt
    found_each (v ∷ taken) order = each_append (Finding es bound) (found K n ls es bound taken) _ (found_each taken order.3) (finds_each v taken order n)

  -- the mergers of a scan that began at the point s
  module _ (two : 2 ≤ n) (s : Point) where
    -- p stands after some of them
    record Within (p : Point) : Type 0 where
      coarser : (x : ℕ) → after p.done x ≡ after p.done (after s.done x)
      lighter : AtMost K (weight_of K ls p.best) (weight_of K ls s.best)
      mergers : Merged K n ls p.done p.best

    within_merge : (p : Point) → Within p → ended K n ls p ≡ false → (f : ℕ × ℕ) → Finding s.done (weight_of K ls s.best) f → (after p.done f.0 ≡ after p.done f.1 → ⊥)
        → Within (merge K n ls p (merger (after p.done f.0) (after p.done f.1) Scan p.scans))
    within_merge p w on f finding apart = record {
      coarser = λ x. after_more p.done e x ∙ ap (merged e.low e.high) (w.coarser x) ∙ sym (after_more p.done e (after s.done x));
      lighter = through K laws n ls sound (better K n ls p.best new) p.best s.best (better_old K laws n ls sound p.best new) w.lighter;
      mergers = more w.mergers e stood_low stood_high (min_less a b apart) (goes_on p on).0 loses;
    }
      where
        a : ℕ
        a = after p.done f.0

        b : ℕ
        b = after p.done f.1

        e : Entry
        e = merger (after p.done f.0) (after p.done f.1) Scan p.scans

        new : ℕ → Bool
        new = group (p.done ++ (e ∷ [])) (min a b)

        names : Named n p.done
        names = named n p.done (merged_joins K laws n ls sound two w.mergers).0

        stood : (x : ℕ) → stands n s.done x ≡ true → stands n p.done (after p.done x) ≡ true
        stood x h = lands n p.done names x (stands_less n s.done x h)

        ways : ((min a b ≡ a) × (max a b ≡ b)) ⊎ ((min a b ≡ b) × (max a b ≡ a))
        ways = either_way a b apart

        stood_low : stands n p.done (min a b) ≡ true
        stood_low = ⊎_elim (λ r. rw r.0 (stood f.0 finding.one)) (λ r. rw r.0 (stood f.1 finding.other)) ways

        stood_high : stands n p.done (max a b) ≡ true
        stood_high = ⊎_elim (λ r. rw r.1 (stood f.1 finding.other)) (λ r. rw r.1 (stood f.0 finding.one)) ways

        loses : LosesNothing K n ls p.done (weight_of K ls p.best) (min a b) (max a b)
        loses S division whole parted =
            let own = whole_own n p.done S names whole in
            let earlier : Whole n s.done S = own_whole n s.done S (λ x. own x ∙ ap S (w.coarser x) ∙ sym (own (after s.done x))) in
            let far : S f.0 ≡ S f.1 → ⊥ = λ e. let at : S a ≡ S b = sym (own f.0) ∙ e ∙ own f.1 in parted (⊎_elim (λ r. rw (r.0, r.1) at) (λ r. rw (r.0, r.1) (sym at)) ways) in
            inl (through K laws n ls sound p.best s.best S w.lighter (finding.parted S earlier far))

    within_found : (fs : List (ℕ × ℕ)) → Each (Finding s.done (weight_of K ls s.best)) fs → (p : Point) → Within p → Within (merge_found K n ls fs p)
    within_found [] each p w = w
    within_found (f ∷ fs) each p w = go (ended K n ls p || eqb (after p.done f.0) (after p.done f.1)) refl (within_found fs each.1)
      where
        next : Point
        next = merge K n ls p (merger (after p.done f.0) (after p.done f.1) Scan p.scans)

        go : (b : Bool) → (ended K n ls p || eqb (after p.done f.0) (after p.done f.1)) ≡ b → ((q : Point) → Within q → Within (merge_found K n ls fs q))
            → Within (cond b (merge_found K n ls fs p) (merge_found K n ls fs (merge K n ls p (merger (after p.done f.0) (after p.done f.1) Scan p.scans))))
        go true e rest = rest p w
        go false e rest =
            let r = or_parts (ended K n ls p) (eqb (after p.done f.0) (after p.done f.1)) e in
            rest _ (within_merge p w r.0 f each.0 (eqb-false _ _ r.1))

  pub work_merged : 2 ≤ n → {p : Point} → Work K n ls p → Merged K n ls p.done p.best
  work_merged two (begin u lightest) = single u lightest.unit lightest.least
  work_merged two (test {p = p} w on u v ground first) =
      let m = work_merged two w in
      let j = merged_joins K laws n ls sound two m in
      let (su, sv, less, joined) = first.pair in
      let lo : min u v ≡ u = omega arith in
      let hi : max u v ≡ v = omega arith in
      more m (merger u v ground 0) (rw lo su) (rw hi sv) (rw (lo, hi) less) (goes_on p on).0
      (rw (lo, hi) (grounds_safe K laws n ls sound p.done j.0 (weight_of K ls p.best) (fit_weight K laws n ls sound p.best) (best_present K laws n ls sound two m) u v su sv (omega arith) ground first.meets))
  work_merged two (scan {p = p} w on none taken order complete) =
      let m = work_merged two w in
      let j = merged_joins K laws n ls sound two m in
      let names = named n p.done j.0 in
      (within_found two p (found K n ls p.done (best_weight K n ls p) taken) (found_each p.done j.0 (best_weight K n ls p) (fit_weight K laws n ls sound p.best) taken order) (next_scan K n ls p)
      (record { coarser = λ x. sym (names.own x); lighter = at_least K laws n ls sound p.best; mergers = m })).mergers

-- what holds at each point of the work: names, groups left, and best at most every group's degree
pub work_named : {V : Type 0} (K : Kind V) (laws : Lawful K) (n : ℕ) (ls : List (Link V)) (sound : Sound K n ls) → 2 ≤ n → {p : Point} → Work K n ls p → Joins n [] p.done × Named n p.done × (length p.done + 2 ≤ n)
work_named K laws n ls sound two {p} w = let j = merged_joins K laws n ls sound two (work_merged K laws n ls sound two w) in (j.0, named n p.done j.0, j.1)

pub work_best : {V : Type 0} (K : Kind V) (laws : Lawful K) (n : ℕ) (ls : List (Link V)) (sound : Sound K n ls) → 2 ≤ n → {p : Point} → Work K n ls p → (g : ℕ) → stands n p.done g ≡ true → AtMost K (best_weight K n ls p) (degree K ls p.done g)
work_best K laws n ls sound two w = best_present K laws n ls sound two (work_merged K laws n ls sound two w)

-- an entry whose lower group is given first
pub merger_ordered : (u v : ℕ) (ground : Ground) (number : ℕ) → u < v → merger u v ground number ≡ record { low = u; high = v; ground = ground; scan = number }
merger_ordered u v ground number less =
    let lo : min u v ≡ u = omega arith in
    let hi : max u v ≡ v = omega arith in
    rw (lo, hi)

pub record_least : {V : Type 0} (K : Kind V) → Lawful K → RecordLeast K
record_least K laws n ls sound two p w over =
    let m = work_merged K laws n ls sound two w in
    let j = merged_joins K laws n ls sound two m in
    let end = is_over K laws n ls sound p over in
    record {
      joins = j.0;
      few = j.1;
      all = λ h. ⊎_elim (λ (l : n ≤ length p.done + 2). omega arith) (λ z. absurd (grind arith)) end;
      weakest = merged_weakest K laws n ls sound two m end;
      points = merged_points K laws n ls sound two m end;
    }
