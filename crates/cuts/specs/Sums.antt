-- The sums that the work makes, and those in which a division is weighed: none of them is refused.
use Rattle.std.specs.Prelude.{◌≡◌, ℕ, zero, suc, ◌+◌, ◌≤◌, Bool, true, cond, not, ◌&&◌, List, [], ◌∷◌, ◌++◌, ◌≢◌, ◌==◌}
use Rattle.weights.specs.Laws.{limit}
use Rattle.cuts.specs.declared.entry.Entry.{Entry}
use Rattle.cuts.specs.Kinds.{Kind, lesser}
use Rattle.cuts.specs.Links.{Link, Sound}
use Rattle.cuts.specs.Divisions.{weight_of}
use Rattle.cuts.specs.Groups.{stands, Joins, degree, joint}
use Rattle.cuts.specs.Tests.{third, gathered}
use Rattle.cuts.specs.Scans.{key}

module _ {V : Type 0} (K : Kind V) where
  -- the sum of two weights keeps the limit, so it is not refused
  abbrev pub Fits : V → V → Type 0
  Fits a b = K.amount a + K.amount b ≤ limit

  -- and so does twice what it comes to
  abbrev pub FitsTwice : V → V → Type 0
  FitsTwice a b = Fits a b × Fits (K.plus a b) (K.plus a b)

  -- sums over the links before, each with the next link in service
  pub record LinkSums (before : List (Link V)) (next : Link V) : Type 0 where
    -- the table is filled: the joint weight of two units, and the degree of one
    pub joints : (a b : ℕ) → Fits (joint K before [] a b) next.weight
    pub degrees : (a : ℕ) → Fits (degree K before [] a) next.weight
    -- a division is weighed
    pub divisions : (S : ℕ → Bool) → Fits (weight_of K before S) next.weight

  module _ (n : ℕ) (ls : List (Link V)) (es : List Entry) where
    -- the joint weights of g with the other groups below k, added up one after another
    abbrev pub joined : ℕ → ℕ → V
    joined g zero = K.nothing
    joined g (suc k) = cond (stands n es k && not (k == g)) (K.plus (joined g k) (joint K ls es g k)) (joined g k)

    -- sums over groups as they stand after some mergers
    pub record GroupSums : Type 0 where
      -- a merger: the joint weights of the two groups with a third
      pub merged : (u v w : ℕ) → Fits (joint K ls es u w) (joint K ls es v w)
      -- its degree: the joint weights with the others so far, and that with the next; all of them come to the degree
      pub degrees : (g k : ℕ) → stands n es k ≡ true → (k ≢ g) → Fits (joined g k) (joint K ls es g k)
      pub all : (g : ℕ) → joined g n ≡ degree K ls es g
      -- ground 2: the joint weight of a pair, twice
      pub doubled : (u v : ℕ) → Fits (joint K ls es u v) (joint K ls es u v)
      -- ground 3: the joint weight of a pair and that of one of the two with a third group, and then this sum twice
      pub triangle : (u v w : ℕ) → (u ≢ v) → third n es u v w ≡ true → FitsTwice (joint K ls es u v) (joint K ls es u w) × FitsTwice (joint K ls es u v) (joint K ls es v w)
      -- ground 4: what is gathered so far, and the lesser of the joint weights with the next third group
      pub neighbourhood : (u v k : ℕ) → (u ≢ v) → third n es u v k ≡ true → Fits (gathered K n ls es u v k) (lesser K (joint K ls es u k) (joint K ls es v k))
      -- a scan: the key of a group that waits, and its joint weight with the group taken
      pub raised : (taken : List ℕ) (v w : ℕ) → Fits (key K n ls es taken w) (joint K ls es v w)

  -- no sum is refused, neither link by link nor after any mergers
  abbrev pub NoSumRefused : Type 0
  NoSumRefused =
      (n : ℕ) (ls : List (Link V)) → Sound K n ls
      → ((before rest : List (Link V)) (next : Link V) → ls ≡ before ++ (next ∷ rest) → next.in_service ≡ true → LinkSums before next)
      × ((es : List Entry) → Joins n [] es → GroupSums n ls es)
