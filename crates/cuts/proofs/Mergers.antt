-- Mergers that lose nothing end with a weakest division, and at each point the figure is the least.
use Rattle.std.proofs.Common.{◌≡◌, ℕ, zero, suc, ◌+◌, ◌<◌, ◌≤◌, Bool, true, false, cond, eqb, ◌⊎◌, List, [], ◌∷◌, ◌++◌, length, take, sym, refl, ap, ◌∙◌, subst, inl, inr, ⊎_elim, arith, length-append, take_all}
use mathlib.Core.Path.{fun_ext}
use lib.Seq.{take-append-le}
use Rattle.std.proofs.lemmas.Bool.Decides.{nat_tests}
use Rattle.std.proofs.lemmas.Bool.{cases_eq, cases_lt, cases_Bool}
use Rattle.weights.specs.Laws.{limit}
use Rattle.cuts.specs.declared.entry.Entry.{Entry}
use Rattle.cuts.specs.Kinds.{Kind, Lawful, AtMost}
use Rattle.cuts.specs.Links.{Link, Sound}
use Rattle.cuts.specs.Divisions.{weight_of}
use Rattle.cuts.specs.Groups.{group, stands, Joins, degree}
use Rattle.cuts.specs.Records.{better}
use Rattle.cuts.specs.Claims.{LosesNothing}
use Rattle.cuts.proofs.Rules.{cuts}
use Rattle.cuts.proofs.Sums.{same, fits}
use Rattle.cuts.proofs.Points.{two_cuts}
use Rattle.cuts.proofs.Served.{served, light, weight_cut}
use Rattle.cuts.proofs.Names.{Named, after_more, named, stands_less, joins_more, stands_more}

-- mergers, each of a pair that may be merged, with the group that is best after them
pub data Merged {V : Type 0} (K : Kind V) (n : ℕ) (ls : List (Link V)) : List Entry → (ℕ → Bool) → Type 0 where
  single : (u : ℕ) → u < n → ((w : ℕ) → w < n → AtMost K (degree K ls [] u) (degree K ls [] w)) → Merged K n ls [] (group [] u)
  more : {es : List Entry} {best : ℕ → Bool} → Merged K n ls es best → (e : Entry) → stands n es e.low ≡ true → stands n es e.high ≡ true → e.low < e.high → length es + 2 < n
      → LosesNothing K n ls es (weight_of K ls best) e.low e.high → Merged K n ls (es ++ (e ∷ [])) (better K n ls best (group (es ++ (e ∷ [])) e.low))

pub length_more : (es : List Entry) (e : Entry) → length (es ++ (e ∷ [])) ≡ length es + 1
length_more es e = length-append es (e ∷ [])

-- a point of the longer record is one of the shorter, or the last
take_more : (es : List Entry) (e : Entry) (k : ℕ) → k ≤ length (es ++ (e ∷ [])) → ((k ≤ length es) × (take k (es ++ (e ∷ [])) ≡ take k es)) ⊎ (take k (es ++ (e ∷ [])) ≡ es ++ (e ∷ []))
take_more es e k h =
    ⊎_elim (λ (l : k < length (es ++ (e ∷ []))). let le : k ≤ length es = omega (arith, length_more es e) in inl (le, take-append-le k es (e ∷ []) le))
    (λ (g : length (es ++ (e ∷ [])) ≤ k). inr (take_all k (es ++ (e ∷ [])) g)) (cases_lt k (length (es ++ (e ∷ []))))

module _ {V : Type 0} (K : Kind V) (laws : Lawful K) (n : ℕ) (ls : List (Link V)) (sound : Sound K n ls) where
  pub fit_weight : (S : ℕ → Bool) → K.amount (weight_of K ls S) ≤ limit
  fit_weight S = rw (weight_cut K laws n ls sound S) (fits K laws (served ls) (light K laws n ls sound) (cuts S) (two_cuts S))

  pub at_least : (S : ℕ → Bool) → AtMost K (weight_of K ls S) (weight_of K ls S)
  at_least S = same K laws _ (fit_weight S)

  pub through : (S T R : ℕ → Bool) → AtMost K (weight_of K ls S) (weight_of K ls T) → AtMost K (weight_of K ls T) (weight_of K ls R) → AtMost K (weight_of K ls S) (weight_of K ls R)
  through S T R = laws.trans _ _ _ (fit_weight S) (fit_weight T) (fit_weight R)

  -- the better is the lighter, and is one of the two
  better_one : (S T : ℕ → Bool) → (better K n ls S T ≡ S) ⊎ (better K n ls S T ≡ T)
  better_one S T = ⊎_elim (λ (e : K.at_most (weight_of K ls S) (weight_of K ls T) ≡ true). inl (ap (λ b. cond b S T) e)) (λ (e : K.at_most (weight_of K ls S) (weight_of K ls T) ≡ false). inr (ap (λ b. cond b S T) e)) (cases_Bool (K.at_most (weight_of K ls S) (weight_of K ls T)))

  pub better_old : (S T : ℕ → Bool) → AtMost K (weight_of K ls (better K n ls S T)) (weight_of K ls S)
  better_old S T = go (K.at_most (weight_of K ls S) (weight_of K ls T)) refl
    where
      go : (b : Bool) → K.at_most (weight_of K ls S) (weight_of K ls T) ≡ b → AtMost K (weight_of K ls (cond b S T)) (weight_of K ls S)
      go true e = at_least S
      go false e = ⊎_elim (λ k. absurd (grind arith)) (λ k. k) (laws.total _ _ (fit_weight S) (fit_weight T))

  better_new : (S T : ℕ → Bool) → AtMost K (weight_of K ls (better K n ls S T)) (weight_of K ls T)
  better_new S T = go (K.at_most (weight_of K ls S) (weight_of K ls T)) refl
    where
      go : (b : Bool) → K.at_most (weight_of K ls S) (weight_of K ls T) ≡ b → AtMost K (weight_of K ls (cond b S T)) (weight_of K ls T)
      go true e = e
      go false e = at_least T

  -- the mergers join groups, and two are left
  pub merged_joins : {es : List Entry} {best : ℕ → Bool} → 2 ≤ n → Merged K n ls es best → Joins n [] es × (length es + 2 ≤ n)
  merged_joins two (single u l least) = (tt, two)
  merged_joins two (more {es = es} m e low high less room loses) =
      let ih = merged_joins two m in
      (joins_more n [] es e ih.0 low high less, omega (arith, length_more es e))

  -- best is at most the degree of every group so far
  abbrev pub LeastSoFar : List Entry → (ℕ → Bool) → Type 0
  LeastSoFar es best = (k g : ℕ) → k ≤ length es → stands n (take k es) g ≡ true → AtMost K (weight_of K ls best) (degree K ls (take k es) g)

  module _ (es : List Entry) (e : Entry) (best : ℕ → Bool) (names : Named n es) (low : stands n es e.low ≡ true) (high : stands n es e.high ≡ true) (less : e.low < e.high) (least : LeastSoFar es best) where
    -- a group that stands after the merger is the new one, or stood before
    least_last : (g : ℕ) → stands n (es ++ (e ∷ [])) g ≡ true → AtMost K (weight_of K ls (better K n ls best (group (es ++ (e ∷ [])) e.low))) (degree K ls (es ++ (e ∷ [])) g)
    least_last g st =
        let new = group (es ++ (e ∷ [])) e.low in
        let before = sym (stands_more n es e names low high less g) ∙ st in
        let stood : stands n es g ≡ true = grind (arith, nat_tests) in
        let not-high : g ≡ e.high → ⊥ = grind (arith, nat_tests) in
        ⊎_elim
        (λ (is : g ≡ e.low). rw is (better_new best new))
        (λ (ne : g ≡ e.low → ⊥).
        let kept : group (es ++ (e ∷ [])) g ≡ group es g = fun_ext (λ x. ap (λ h. eqb h g) (after_more es e x) ∙ grind (arith, nat_tests)) in
        let all = take_all (length es) es (omega arith) in
        let old = subst (λ d. AtMost K (weight_of K ls best) (degree K ls d g)) all (least (length es) g (omega arith) (subst (λ d. stands n d g ≡ true) (sym all) stood)) in
        subst (λ G. AtMost K (weight_of K ls (better K n ls best new)) (weight_of K ls G)) (sym kept) (through (better K n ls best new) best (group es g) (better_old best new) old))
        (cases_eq g e.low)

    least_more : LeastSoFar (es ++ (e ∷ [])) (better K n ls best (group (es ++ (e ∷ [])) e.low))
    least_more k g h st =
        let new = group (es ++ (e ∷ [])) e.low in
        ⊎_elim
        (λ r. subst (λ d. AtMost K (weight_of K ls (better K n ls best new)) (degree K ls d g)) (sym r.1) (through (better K n ls best new) best (group (take k es) g) (better_old best new) (least k g r.0 (subst (λ d. stands n d g ≡ true) r.1 st))))
        (λ is. subst (λ d. AtMost K (weight_of K ls (better K n ls best new)) (degree K ls d g)) (sym is) (least_last g (subst (λ d. stands n d g ≡ true) is st)))
        (take_more es e k h)

  single_least : (u : ℕ) → ((w : ℕ) → w < n → AtMost K (degree K ls [] u) (degree K ls [] w)) → LeastSoFar [] (group [] u)
  single_least u least zero g h st = least g (stands_less n [] g st)
  single_least u least (suc k) g h st = least g (stands_less n [] g st)

  pub best_least : {es : List Entry} {best : ℕ → Bool} → 2 ≤ n → Merged K n ls es best → LeastSoFar es best
  best_least two (single u l least) = single_least u least
  best_least two (more {es = es} {best = best} m e low high less room loses) =
      least_more es e best (named n es (merged_joins two m).0) low high less (best_least two m)

  pub best_present : {es : List Entry} {best : ℕ → Bool} → 2 ≤ n → Merged K n ls es best → (g : ℕ) → stands n es g ≡ true → AtMost K (weight_of K ls best) (degree K ls es g)
  best_present {es} {best} two m g st =
      let all = take_all (length es) es (omega arith) in
      subst (λ d. AtMost K (weight_of K ls best) (degree K ls d g)) all (best_least two m (length es) g (omega arith) (subst (λ d. stands n d g ≡ true) (sym all) st))

  -- and is a group that has stood
  abbrev pub Stood : List Entry → (ℕ → Bool) → Type 0
  Stood es G = (k g : ℕ) × (k ≤ length es) × (stands n (take k es) g ≡ true) × (G ≡ group (take k es) g)

  pub stood_longer : (es : List Entry) (e : Entry) (G : ℕ → Bool) → Stood es G → Stood (es ++ (e ∷ [])) G
  stood_longer es e G (k, g, h, st, is) =
      let same = take-append-le k es (e ∷ []) h in
      (k, g, omega (arith, length_more es e), subst (λ d. stands n d g ≡ true) (sym same) st, is ∙ ap (λ d. group d g) (sym same))

  stood_last : (es : List Entry) (g : ℕ) → stands n es g ≡ true → Stood es (group es g)
  stood_last es g st =
      let all = take_all (length es) es (omega arith) in
      (length es, g, omega arith, subst (λ d. stands n d g ≡ true) (sym all) st, ap (λ d. group d g) (sym all))

  low_stands : (es : List Entry) (e : Entry) → Named n es → stands n es e.low ≡ true → stands n es e.high ≡ true → e.low < e.high → stands n (es ++ (e ∷ [])) e.low ≡ true
  low_stands es e names low high less = stands_more n es e names low high less e.low ∙ grind (arith, nat_tests)

  pub best_stood : {es : List Entry} {best : ℕ → Bool} → 2 ≤ n → Merged K n ls es best → Stood es best
  best_stood two (single u l least) = stood_last [] u (grind (arith, nat_tests))
  best_stood two (more {es = es} {best = best} m e low high less room loses) =
      let new = group (es ++ (e ∷ [])) e.low in
      let names = named n es (merged_joins two m).0 in
      ⊎_elim (λ is. subst (Stood (es ++ (e ∷ []))) (sym is) (stood_longer es e best (best_stood two m)))
      (λ is. subst (Stood (es ++ (e ∷ []))) (sym is) (stood_last (es ++ (e ∷ [])) e.low (low_stands es e names low high less)))
      (better_one best new)
