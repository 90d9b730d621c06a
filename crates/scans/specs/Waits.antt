-- Who waits in the course of a scan, and with which key.
use Rattle.std.specs.Prelude.{◌≡◌, ℕ, ◌<◌, Bool, true, false, cond, ◌&&◌, List, Some, None, Ok, Err, Option, Result, nat_lt, slice_index_or}
use Rattle.refusals.specs.declared.Refusal.{Refusal}
use Rattle.weights.specs.declared.weight.Weight.{Ghosts}
use Rattle.cuts.specs.declared.entry.Entry.{Entry}
use Rattle.cuts.specs.Kinds.{kind_of}
use Rattle.cuts.specs.Links.{Link}
use Rattle.cuts.specs.Sums.{Fits}
use Rattle.tables.specs.declared.graph.Graph.{Graph}
use Rattle.tables.specs.declared.groups.Groups.{Groups}
use Rattle.tables.specs.Meaning.{ExplainsIn}

-- the value of a key, where there is one
abbrev pub worth : {W V : Type 0} → (W → V) → Option W → Option V
worth value None = None
worth value (Some k) = Some (value k)

-- exactly the groups of p wait, each with a key of the value that m gives
pub record Waits {W V : Type 0} (value : W → V) (keys : ℕ → Option W) (p : ℕ → Bool) (m : ℕ → V) : Type 0 where
  pub each : (x : ℕ) → worth value (keys x) ≡ cond (p x) (Some (m x)) None

-- exactly the groups of p are marked
pub record Marks (marks : List Bool) (p : ℕ → Bool) : Type 0 where
  pub each : (x : ℕ) → slice_index_or marks x false ≡ p x

-- each group that waits is one of the first n, and is marked
pub record AllMarked {W : Type 0} (n : ℕ) (keys : ℕ → Option W) (marks : List Bool) : Type 0 where
  pub each : (x : ℕ) (k : W) → keys x ≡ Some k → (x < n) × (slice_index_or marks x false ≡ true)

-- whether a new key comes to the bound; a refused one does not
abbrev pub comes_to : {W : Type 0} (g : Ghosts W) → g.Value → Result W Refusal → Bool
comes_to g bound (Ok k) = g.le bound (g.value k)
comes_to g bound (Err _) = false

-- a weight of the value v, where that is above nothing
abbrev pub Above : {W : Type 0} (g : Ghosts W) → g.Value → Option W → Type 0
Above g v None = g.le v g.zero ≡ true
Above g v (Some k) = (g.value k ≡ v) × (g.le v g.zero ≡ false)

-- the groups that stand, as they are marked among the first n
abbrev pub present : ℕ → Groups → ℕ → Bool
present n groups x = nat_lt x n && slice_index_or groups.standing x false

-- in every plan that the weights and groups are those of, the group waits, and its key and the weight by keep the limit
abbrev pub CanRaise : {W : Type 0} (g : Ghosts W) → Graph W → (ℕ → Option W) → ℕ → g.Value → Type 0
CanRaise {W} g graph keys group by =
    (ls : List (Link g.Value)) (es : List Entry) → ExplainsIn g ls es graph → (old : W) × (keys group ≡ Some old) × Fits (kind_of g) (g.value old) by
