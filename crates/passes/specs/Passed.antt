-- What the tests of a pair of groups answer, and what a pass over the pairs answers.
use Rattle.std.specs.Prelude.{◌≡◌, ℕ, ◌<◌, true, false, List, Some, None, Option, slice_index_or}
use Rattle.cuts.specs.declared.entry.Entry.{Entry}
use Rattle.cuts.specs.declared.ground.Ground.{Ground}
use Rattle.cuts.specs.Kinds.{Kind, AtMost}
use Rattle.cuts.specs.Links.{Link}
use Rattle.cuts.specs.Groups.{degree, joint}
use Rattle.cuts.specs.Tests.{third, twice, First, Meets, None as NoPair}
use Rattle.cuts.specs.Numbers.{ground_number}
use Rattle.tables.specs.declared.groups.Groups.{Groups}

-- two groups that are marked as standing, the lower first
pub record Standing (groups : Groups) (n u v : ℕ) : Type 0 where
  pub low : slice_index_or groups.standing u false ≡ true
  pub high : slice_index_or groups.standing v false ≡ true
  pub order : u < v
  pub within : v < n

-- the third group w makes a triangle of the pair u, v: each degree is at most twice what joins it to the other two
abbrev pub Apex : {V : Type 0} → Kind V → ℕ → List (Link V) → List Entry → ℕ → ℕ → ℕ → Type 0
Apex K n ls es u v w =
    (third n es u v w ≡ true)
    × AtMost K (degree K ls es u) (twice K n ls es (K.plus (joint K ls es u v) (joint K ls es u w)))
    × AtMost K (degree K ls es v) (twice K n ls es (K.plus (joint K ls es u v) (joint K ls es v w)))

module _ {V : Type 0} (K : Kind V) (n : ℕ) (ls : List (Link V)) (es : List Entry) (best : V) where
  -- the lowest ground whose test the pair meets, or none where it meets no test
  abbrev pub Judged : ℕ → ℕ → Option Ground → Type 0
  Judged u v None = (other : Ground) → Meets K n ls es best u v other → ⊥
  Judged u v (Some why) = Meets K n ls es best u v why × ((other : Ground) → Meets K n ls es best u v other → ground_number other < ground_number why → ⊥)

  -- the first pair that meets a test, under its lowest ground, or none where no pair meets one
  abbrev pub Passed : Option (ℕ × ℕ × Ground) → Type 0
  Passed None = NoPair K n ls es best
  Passed (Some p) = First K n ls es best p.0 p.1 p.2
