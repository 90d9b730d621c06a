-- Every scan finds a pair, and merges it.
use Rattle.std.proofs.Common.{◌≡◌, ℕ, zero, suc, ◌+◌, ◌<◌, ◌≤◌, Bool, true, false, cond, ◌&&◌, ◌||◌, eqb, List, [], ◌∷◌, length, sym, ap, ◌∙◌, ⊎_elim, arith, length-append}
use Rattle.std.proofs.lemmas.Bool.Decides.{nat_tests}
use Rattle.std.proofs.lemmas.Bool.{cases_eq, cases_Bool}
use Rattle.weights.specs.Laws.{limit}
use Rattle.cuts.specs.declared.entry.Entry.{Entry}
use Rattle.cuts.specs.declared.ground.Ground.TheVariants.{Scan}
use Rattle.cuts.specs.Kinds.{Kind, Lawful, AtMost}
use Rattle.cuts.specs.Links.{Link, Sound}
use Rattle.cuts.specs.Groups.{after, group, stands, degree, joint}
use Rattle.cuts.specs.Scans.{has, key, Order, Complete, raised, finds, found}
use Rattle.cuts.specs.Records.{Point, merger, best_weight, ended, merge, merge_found, next_scan}
use Rattle.cuts.specs.Claims.{ScanMerges}
use Rattle.cuts.proofs.Names.{Named, named, stands_less, stands_own, lands}
use Rattle.cuts.proofs.Mergers.{fit_weight, merged_joins, best_present, length_more}
use Rattle.cuts.proofs.Facts.{sums_fit, key_none, key_more, key_degree}
use Rattle.cuts.proofs.Works.{goes_on, Each, Finding, found_each, work_merged}

abbrev found_one : ℕ → ℕ → Bool → ℕ
found_one v k b = length {A = ℕ × ℕ} (cond b ((v, k) ∷ []) [])

module _ {V : Type 0} (K : Kind V) (n : ℕ) (ls : List (Link V)) where
  -- a group below k that is raised to the bound is found
  finds_some : (es : List Entry) (bound : V) (v : ℕ) (taken : List ℕ) (w k : ℕ) → w < k → raised K n ls es bound v taken w ≡ true → 0 < length (finds K n ls es bound v taken k)
  finds_some es bound v taken w zero l h = absurd (omega arith)
  finds_some es bound v taken w (suc k) l h =
      let all = length-append (finds K n ls es bound v taken k) (cond (raised K n ls es bound v taken k) ((v, k) ∷ []) []) in
      ⊎_elim
      (λ (e : w ≡ k). let one : length (cond (raised K n ls es bound v taken k) ((v, k) ∷ []) []) ≡ 1 = ap (found_one v k) (ap (raised K n ls es bound v taken) (sym e) ∙ h) in omega arith)
      (λ (ne : w ≡ k → ⊥). let ih = finds_some es bound v taken w k (omega arith) h in omega arith)
      (cases_eq w k)

  -- merging found pairs takes no merger back
  no_fewer : (fs : List (ℕ × ℕ)) (p : Point) → length p.done ≤ length (merge_found K n ls fs p).done
  no_fewer [] p = omega arith
  no_fewer (f ∷ fs) p = go (ended K n ls p || eqb (after p.done f.0) (after p.done f.1)) (no_fewer fs)
    where
      go : (b : Bool) → ((q : Point) → length q.done ≤ length (merge_found K n ls fs q).done)
          → length p.done ≤ length (cond b (merge_found K n ls fs p) (merge_found K n ls fs (merge K n ls p (merger (after p.done f.0) (after p.done f.1) Scan p.scans)))).done
      go true rest = rest p
      go false rest =
          let e = merger (after p.done f.0) (after p.done f.1) Scan p.scans in
          omega (arith, rest (merge K n ls p e), length_more p.done e)

module _ {V : Type 0} (K : Kind V) (laws : Lawful K) (n : ℕ) (ls : List (Link V)) (sound : Sound K n ls) where
  -- a key that has come to the bound did so at some raise
  reached_some : (es : List Entry) (bound : V) → K.at_most bound K.nothing ≡ false → (taken : List ℕ) → Order K n ls es taken → (t : ℕ) → stands n es t ≡ true → has taken t ≡ false → AtMost K bound (key K n ls es taken t) → 0 < length (found K n ls es bound taken)
  reached_some es bound some [] order t st out h = absurd (let z = rw (key_none K laws n ls sound es t) at h in grind arith)
  reached_some es bound some (v ∷ taken) order t st out h =
      let all = length-append (found K n ls es bound taken) (finds K n ls es bound v taken n) in
      ⊎_elim
      (λ (light : K.at_most (joint K ls es v t) K.nothing ≡ true).
      let ih = reached_some es bound some taken order.3 t st (grind (arith, nat_tests)) (rw (before light) at h) in
      omega arith)
      (λ (heavy : K.at_most (joint K ls es v t) K.nothing ≡ false).
      let is : raised K n ls es bound v taken t ≡ true = raise heavy in
      let here = finds_some K n ls es bound v taken t n (stands_less n es t st) is in
      omega arith)
      (cases_Bool (K.at_most (joint K ls es v t) K.nothing))
    where
      zero-fit : K.amount K.nothing ≤ limit
      zero-fit = omega (arith, laws.none)

      before : K.at_most (joint K ls es v t) K.nothing ≡ true → key K n ls es (v ∷ taken) t ≡ key K n ls es taken t
      before light =
          let fit = sums_fit K laws n ls sound in
          let fj : K.amount (joint K ls es v t) ≤ limit = omega (arith, fit (λ x y. (group es v x && group es t y) || (group es t x && group es v y)) (λ x y. false)) in
          let fk : K.amount (key K n ls es taken t) ≤ limit = omega (arith, fit (λ x y. (has taken (after es x) && group es t y) || (group es t x && has taken (after es y))) (λ x y. false)) in
          let none = laws.antisym (joint K ls es v t) K.nothing fj zero-fit light (laws.least _ fj) in
          key_more K laws n ls sound es v taken t order.1 out ∙ ap (K.plus (key K n ls es taken t)) none
          ∙ laws.comm (key K n ls es taken t) K.nothing (omega (arith, laws.none)) ∙ laws.neutral _ fk

      raise : K.at_most (joint K ls es v t) K.nothing ≡ false → raised K n ls es bound v taken t ≡ true
      raise heavy = rw (st, out, heavy, h)

  found_some : (es : List Entry) → Named n es → (bound : V) → K.at_most bound K.nothing ≡ false → ((g : ℕ) → stands n es g ≡ true → AtMost K bound (degree K ls es g)) → 0 < n → (taken : List ℕ) → Order K n ls es taken → Complete K n ls es taken → 0 < length (found K n ls es bound taken)
  found_some es names bound some low units [] order complete = absurd (let h = complete (after es 0) (lands n es names 0 units) in grind arith)
  found_some es names bound some low units (t ∷ taken) order complete =
      let all = length-append (found K n ls es bound taken) (finds K n ls es bound t taken n) in
      let h = rw (sym (key_degree K laws n ls sound es names taken t order.1 complete)) at (low t order.0) in
      let r = reached_some es bound some taken order.3 t order.0 order.1 h in
      omega arith

  merges_first : (p : Point) → ended K n ls p ≡ false → (fs : List (ℕ × ℕ)) → Each (Finding K laws n ls sound p.done (best_weight K n ls p)) fs → 0 < length fs → length p.done < length (merge_found K n ls fs (next_scan K n ls p)).done
  merges_first p on [] each some = absurd (omega arith)
  merges_first p on (f ∷ fs) each some =
      let own₀ = stands_own n p.done f.0 each.0.one in
      let own₁ = stands_own n p.done f.1 each.0.other in
      let apart = each.0.apart in
      let differ : eqb (after p.done f.0) (after p.done f.1) ≡ false = rw (own₀, own₁) (grind (arith, nat_tests)) in
      go (ended K n ls p || eqb (after p.done f.0) (after p.done f.1)) (rw (on, differ))
    where
      go : (b : Bool) → b ≡ false → length p.done < length (cond b (merge_found K n ls fs (next_scan K n ls p)) (merge_found K n ls fs (merge K n ls (next_scan K n ls p) (merger (after p.done f.0) (after p.done f.1) Scan (p.scans + 1))))).done
      go true e = absurd (grind arith)
      go false e =
          let m = merger (after p.done f.0) (after p.done f.1) Scan (p.scans + 1) in
          omega (arith, no_fewer K n ls fs (merge K n ls (next_scan K n ls p) m), length_more p.done m)

pub scan_merges_lem : {V : Type 0} (K : Kind V) → Lawful K → ScanMerges K
scan_merges_lem K laws n ls sound two p w on taken order complete =
    let m = work_merged K laws n ls sound two w in
    let j = merged_joins K laws n ls sound two m in
    let bound = best_weight K n ls p in
    let some = (goes_on K laws n ls sound p on).1 in
    merges_first K laws n ls sound p on (found K n ls p.done bound taken)
    (found_each K laws n ls sound p.done j.0 bound (fit_weight K laws n ls sound p.best) taken order)
    (found_some K laws n ls sound p.done (named n p.done j.0) bound some (best_present K laws n ls sound two m) (omega arith) taken order complete)
