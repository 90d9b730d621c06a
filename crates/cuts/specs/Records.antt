-- Which records the work allows for a plan.
use Rattle.std.specs.Prelude.{◌≡◌, ℕ, ◌+◌, ◌<◌, min, max, Bool, false, cond, not, ◌||◌, List, [], ◌∷◌, ◌++◌, length, ◌==◌, nat_le}
use Rattle.cuts.specs.declared.entry.Entry.{Entry}
use Rattle.cuts.specs.declared.ground.Ground.{Ground}
use Rattle.cuts.specs.declared.ground.Ground.TheVariants.{Scan}
use Rattle.cuts.specs.Kinds.{Kind, AtMost, above}
use Rattle.cuts.specs.Links.{Link}
use Rattle.cuts.specs.Divisions.{weight_of}
use Rattle.cuts.specs.Groups.{after, group, degree}
use Rattle.cuts.specs.Tests.{First, None}
use Rattle.cuts.specs.Scans.{Order, Complete, found}

-- where the work stands: the mergers so far, the first in front, the units of the group that is best, and the number of scans
pub record Point : Type 0 where
  pub done : List Entry
  pub best : ℕ → Bool
  pub scans : ℕ

abbrev pub merger : ℕ → ℕ → (ground : Ground) → ℕ → Entry
merger a b why scan = record { low = min a b; high = max a b; ground = why; scan = scan }

module _ {V : Type 0} (K : Kind V) (n : ℕ) (ls : List (Link V)) where
  -- the lightest unit, the lowest number among equals
  pub record Lightest (u : ℕ) : Type 0 where
    pub unit : u < n
    pub least : (w : ℕ) → w < n → AtMost K (degree K ls [] u) (degree K ls [] w)
    pub first : (w : ℕ) → w < u → K.at_most (degree K ls [] w) (degree K ls [] u) ≡ false

  abbrev pub best_weight : Point → V
  best_weight p = weight_of K ls p.best

  -- two groups are left, as each merger leaves one fewer, or best is nothing
  abbrev pub ended : Point → Bool
  ended p = nat_le n (length p.done + 2) || not (above K (best_weight p))

  -- a new group becomes best where it is strictly lighter
  abbrev pub better : (ℕ → Bool) → (ℕ → Bool) → ℕ → Bool
  better best new = cond (K.at_most (weight_of K ls best) (weight_of K ls new)) best new

  abbrev pub merge : Point → Entry → Point
  merge p e = record {
    done = p.done ++ (e ∷ []);
    best = better p.best (group (p.done ++ (e ∷ [])) e.low);
    scans = p.scans;
  }

  -- the found pairs, merged in the order found; a pair is passed over where it is in one group already, or work has ended
  abbrev pub merge_found : List (ℕ × ℕ) → Point → Point
  merge_found [] p = p
  merge_found (f ∷ fs) p =
      cond (ended p || after p.done f.0 == after p.done f.1) (merge_found fs p)
      (merge_found fs (merge p (merger (after p.done f.0) (after p.done f.1) Scan p.scans)))

  abbrev pub next_scan : Point → Point
  next_scan p = record { done = p.done; best = p.best; scans = p.scans + 1 }

  -- after a scan that took the groups in this order
  abbrev pub scanned : List ℕ → Point → Point
  scanned taken p = merge_found (found K n ls p.done (best_weight p) taken) (next_scan p)

  -- the work from single units to a point
  pub data Work : Point → Type 0 where
    begin : (u : ℕ) → Lightest u → Work (record { done = []; best = group [] u; scans = 0 })
    -- the first pair that meets a test
    test : {p : Point} → Work p → ended p ≡ false → (u v : ℕ) (why : Ground) → First K n ls p.done (best_weight p) u v why → Work (merge p (merger u v why 0))
    -- no pair meets one: a scan, in which any heaviest group may be taken
    scan : {p : Point} → Work p → ended p ≡ false → None K n ls p.done (best_weight p) → (taken : List ℕ) → Order K n ls p.done taken → Complete K n ls p.done taken → Work (scanned taken p)
