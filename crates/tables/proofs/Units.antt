-- The lightest among the first units.
use Rattle.std.proofs.Common.{◌≡◌, ℕ, ◌+◌, ◌<◌, ◌≤◌, true, false, List, [], sym, refl, subst, ap₂, ⊎_elim, arith}
use Rattle.std.proofs.lemmas.Bool.{cases_lt, cases_Bool, both_ways}
use Rattle.weights.specs.Laws.{limit}
use Rattle.weights.specs.declared.weight.Weight.{Ghosts}
use Rattle.cuts.specs.Kinds.{Kind, Lawful, AtMost, kind_of}
use Rattle.cuts.specs.Links.{Link}
use Rattle.cuts.specs.Groups.{degree}
use Rattle.cuts.specs.Records.{Lightest}
use Rattle.cuts.proofs.Sums.{same}
use Rattle.cuts.proofs.Names.{stands_from}
use Rattle.tables.specs.Meaning.{at, Holds}
use Rattle.tables.proofs.Places.{value_fits}

-- the degree of a unit is its entry, and keeps the limit
module _ {W : Type 0} (g : Ghosts W) (n : ℕ) (ls : List (Link g.Value)) (table : List W) (holds : Holds g n ls [] table) where
  unit_degree : (u : ℕ) → u < n → at g table n u u ≡ degree (kind_of g) ls [] u
  unit_degree u lt = holds.degrees u (stands_from n [] u lt refl)

  pub unit_fits : Lawful (kind_of g) → ((x : W) → g.size (g.value x) ≤ limit) → (u : ℕ) → u < n → g.size (degree (kind_of g) ls [] u) ≤ limit
  unit_fits laws bounded u lt = subst (λ d. g.size d ≤ limit) (unit_degree u lt) (value_fits g laws.none bounded table _)

  -- to compare two entries is to compare the degrees
  pub units_compared : (u v : ℕ) → u < n → v < n → g.le (degree (kind_of g) ls [] u) (degree (kind_of g) ls [] v) ≡ g.le (at g table n u u) (at g table n v v)
  units_compared u v lu lv = ap₂ g.le (sym (unit_degree u lu)) (sym (unit_degree v lv))

module _ {V : Type 0} (K : Kind V) (laws : Lawful K) (n : ℕ) (ls : List (Link V)) (fits : (u : ℕ) → u < n → K.amount (degree K ls [] u) ≤ limit) where
  pub lightest_one : 0 < n → Lightest K 1 ls 0
  lightest_one some = record {
    unit = omega arith;
    least = λ w lt. let e : 0 ≡ w = omega arith in subst (λ k. AtMost K (degree K ls [] 0) (degree K ls [] k)) e (same K laws _ (fits 0 some));
    first = λ w lt. absurd (omega arith);
  }

  module _ (k u : ℕ) (lt : k < n) (so_far : Lightest K k ls u) where
    own : AtMost K (degree K ls [] k) (degree K ls [] k)
    own = same K laws _ (fits k lt)

    -- what holds of the units below k, and of k
    one_more : (x : ℕ) → ((w : ℕ) → w < k → AtMost K (degree K ls [] x) (degree K ls [] w)) → AtMost K (degree K ls [] x) (degree K ls [] k) → (w : ℕ) → w < k + 1 → AtMost K (degree K ls [] x) (degree K ls [] w)
    one_more x below here w l = ⊎_elim (below w) (λ (past : k ≤ w). let e : k ≡ w = omega arith in subst (λ i. AtMost K (degree K ls [] x) (degree K ls [] i)) e here) (cases_lt w k)

    -- the next unit is strictly lighter
    pub lightest_next : K.at_most (degree K ls [] u) (degree K ls [] k) ≡ false → Lightest K (k + 1) ls k
    lightest_next lighter = record {
      unit = omega arith;
      least = one_more k (λ w l. chain k u w lt (before u so_far.unit) (before w l) turned (so_far.least w l)) own;
      first = λ w l. ⊎_elim
          (λ (yes : K.at_most (degree K ls [] w) (degree K ls [] k) ≡ true). absurd (both_ways _ lighter (chain u w k (before u so_far.unit) (before w l) lt (so_far.least w l) yes)))
          (λ no. no)
          (cases_Bool (K.at_most (degree K ls [] w) (degree K ls [] k)));
    }
      where
        before : (w : ℕ) → w < k → w < n
        before w l = omega arith

        turned : AtMost K (degree K ls [] k) (degree K ls [] u)
        turned = ⊎_elim (λ yes. absurd (both_ways _ lighter yes)) (λ yes. yes) (laws.total (degree K ls [] u) (degree K ls [] k) (fits u (before u so_far.unit)) (fits k lt))

        chain : (a b c : ℕ) → a < n → b < n → c < n → AtMost K (degree K ls [] a) (degree K ls [] b) → AtMost K (degree K ls [] b) (degree K ls [] c) → AtMost K (degree K ls [] a) (degree K ls [] c)
        chain a b c la lb lc = laws.trans _ _ _ (fits a la) (fits b lb) (fits c lc)

    -- the next unit is no lighter
    pub lightest_same : AtMost K (degree K ls [] u) (degree K ls [] k) → Lightest K (k + 1) ls u
    lightest_same heavier = record { unit = let l = so_far.unit in omega arith; least = one_more u so_far.least heavier; first = so_far.first }
