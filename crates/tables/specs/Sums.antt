-- That the sums of the table keep the limit, in every plan that it can be the table of.
use Rattle.std.specs.Prelude.{◌≡◌, ℕ, ◌<◌, true, List, [], ◌∷◌, ◌++◌}
use Rattle.weights.specs.declared.weight.Weight.{Ghosts}
use Rattle.cuts.specs.declared.entry.Entry.{Entry}
use Rattle.cuts.specs.Kinds.{kind_of}
use Rattle.cuts.specs.Links.{Link, Sound}
use Rattle.cuts.specs.Groups.{stands}
use Rattle.cuts.specs.Sums.{Fits}
use Rattle.tables.specs.declared.groups.Groups.{Groups}
use Rattle.tables.specs.declared.table.Table.{Table}
use Rattle.tables.specs.Meaning.{Explains, Holds, HoldsIn}

-- the weights that a link is added to, how many rows they are, and that link
pub record Filling (W : Type 0) : Type 0 where
  pub weights : List W
  pub units : ℕ
  pub first : ℕ
  pub second : ℕ
  pub weight : W

-- the weights that a merger begins with, how many rows they are, the groups, and the two that are merged
pub record Merger (W : Type 0) : Type 0 where
  pub weights : List W
  pub units : ℕ
  pub groups : Groups
  pub low : ℕ
  pub high : ℕ

module _ {W : Type 0} (g : Ghosts W) where
  -- the links so far, and the one that is added, in service
  abbrev pub with_link : Filling W → List (Link g.Value) → List (Link g.Value)
  with_link f ls = ls ++ (record { first = f.first; second = f.second; in_service = true; weight = g.value f.weight } ∷ [])

  -- if the weights are those of the first links of a plan, and the link is its next one, then a and b keep the limit
  abbrev pub FitsFilling : Filling W → g.Value → g.Value → Type 0
  FitsFilling f a b = (ls : List (Link g.Value)) → Holds g f.units ls [] f.weights → Sound (kind_of g) f.units (with_link f ls) → Fits (kind_of g) a b

  -- for each such plan, the table is that of these links and the next
  abbrev pub Filled : Filling W → Table W → Type 0
  Filled f table = (ls : List (Link g.Value)) → Holds g f.units ls [] f.weights → Sound (kind_of g) f.units (with_link f ls) → HoldsIn g (with_link f ls) [] table

  -- if a plan, after some mergers, explains what the merger begins with, and its two groups stand, then a and b keep the limit
  abbrev pub FitsMerger : Merger W → g.Value → g.Value → Type 0
  FitsMerger m a b =
      (ls : List (Link g.Value)) (es : List Entry) → Explains g m.units ls es m.weights m.groups → stands m.units es m.low ≡ true → stands m.units es m.high ≡ true → m.low < m.high → Fits (kind_of g) a b

  -- for each such plan, the table is that of its links after one merger more, that of the two
  abbrev pub Merged : Merger W → Table W → Type 0
  Merged m table =
      (ls : List (Link g.Value)) (es : List Entry) (e : Entry) → Explains g m.units ls es m.weights m.groups → stands m.units es m.low ≡ true → stands m.units es m.high ≡ true → m.low < m.high → e.low ≡ m.low → e.high ≡ m.high → HoldsIn g ls (es ++ (e ∷ [])) table
