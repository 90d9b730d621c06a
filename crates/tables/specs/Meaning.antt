-- What the weight table and the groups of the work mean: the links of a plan, after some mergers.
use Rattle.std.specs.Prelude.{◌≡◌, ℕ, zero, suc, ◌+◌, ◌*◌, ◌<◌, true, false, List, [], ◌∷◌, length, ◌≢◌, slice_index, slice_index_or}
use Rattle.weights.specs.declared.weight.Weight.{Ghosts}
use Rattle.cuts.specs.declared.entry.Entry.{Entry}
use Rattle.cuts.specs.Kinds.{kind_of}
use Rattle.cuts.specs.Links.{Link, Sound}
use Rattle.cuts.specs.Groups.{after, stands, Joins, degree, joint}
use Rattle.tables.specs.declared.graph.Graph.{Graph}
use Rattle.tables.specs.declared.groups.Groups.{Groups}
use Rattle.tables.specs.declared.table.Table.{Table}

-- the value of the weight at a place of a list; past its end nothing
unfoldable pub value_at : {W : Type 0} (g : Ghosts W) → List W → ℕ → g.Value
value_at g [] i = g.zero
value_at g (x ∷ xs) zero = g.value x
value_at g (x ∷ xs) (suc i) = value_at g xs i

-- the entry of a row and a column of a table of n rows
abbrev pub at : {W : Type 0} (g : Ghosts W) → List W → ℕ → ℕ → ℕ → g.Value
at g table n row column = value_at g table (row * n + column)

-- each group of the n units that stands after the mergers is marked as standing, and each unit has the name of its group
pub record Tracks (n : ℕ) (es : List Entry) (groups : Groups) : Type 0 where
  pub units : groups.units ≡ n
  pub left : groups.left + length es ≡ n
  pub standing : (u : ℕ) → u < n → slice_index_or groups.standing u false ≡ stands n es u
  pub names : (x : ℕ) → x < n → slice_index groups.names x ≡ after es x

module _ {W : Type 0} (g : Ghosts W) (n : ℕ) (ls : List (Link g.Value)) (es : List Entry) where
  -- the entry of two groups is their joint weight, and that of a group with itself is its degree
  pub record Holds (table : List W) : Type 0 where
    pub joints : (u v : ℕ) → stands n es u ≡ true → stands n es v ≡ true → (u ≢ v) → at g table n u v ≡ joint (kind_of g) ls es u v
    pub degrees : (u : ℕ) → stands n es u ≡ true → at g table n u u ≡ degree (kind_of g) ls es u

  -- table and groups are those of the plan with these links after these mergers
  pub record Explains (table : List W) (groups : Groups) : Type 0 where
    pub sound : Sound (kind_of g) n ls
    pub joins : Joins n [] es
    pub holds : Holds table
    pub tracks : Tracks n es groups

-- the entry of a row and a column of the table
abbrev pub entry_of : {W : Type 0} (g : Ghosts W) → Table W → ℕ → ℕ → g.Value
entry_of g table row column = at g table.weights.now table.units row column

-- the table is that of the links after the mergers
abbrev pub HoldsIn : {W : Type 0} (g : Ghosts W) → List (Link g.Value) → List Entry → Table W → Type 0
HoldsIn g ls es table = Holds g table.units ls es table.weights.now

-- a table lies where it lay, with as many rows
abbrev pub SameMemory : {W : Type 0} → Table W → Table W → Type 0
SameMemory old new = (new.units ≡ old.units) × (new.weights.ghost_name ≡ old.weights.ghost_name)

-- the entry of a row and a column of the weights that are seen with their groups
abbrev pub weight_of : {W : Type 0} (g : Ghosts W) → Graph W → ℕ → ℕ → g.Value
weight_of g graph row column = at g graph.weights.now graph.groups.now.units row column

-- the weights and groups that are seen are those of the plan with these links after these mergers
abbrev pub ExplainsIn : {W : Type 0} (g : Ghosts W) → List (Link g.Value) → List Entry → Graph W → Type 0
ExplainsIn g ls es graph = Explains g graph.groups.now.units ls es graph.weights.now graph.groups.now
