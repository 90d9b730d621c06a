-- What is said of a pair of groups, for every plan that its table is that of.
use Rattle.std.specs.Prelude.{ℕ, List}
use Rattle.weights.specs.declared.weight.Weight.{Ghosts}
use Rattle.cuts.specs.declared.entry.Entry.{Entry}
use Rattle.cuts.specs.Kinds.{kind_of}
use Rattle.cuts.specs.Links.{Link}
use Rattle.cuts.specs.Sums.{Fits}
use Rattle.tables.specs.Meaning.{ExplainsIn}
use Rattle.passes.specs.declared.pair.Pair.{Pair}
use Rattle.passes.specs.Passed.{Standing}

-- P of the number of units, the links, the mergers and the two groups, for every plan and its mergers that the pair's
-- table and groups are those of, if the two stand there, the lower first
abbrev pub InEachPlan : {W : Type 0} (g : Ghosts W) → Pair W → (ℕ → List (Link g.Value) → List Entry → ℕ → ℕ → Type 0) → Type 0
InEachPlan g pair P =
    let n = pair.graph.now.groups.now.units in
    (ls : List (Link g.Value)) (es : List Entry) → ExplainsIn g ls es pair.graph.now → Standing pair.graph.now.groups.now n pair.u pair.v → P n ls es pair.u pair.v

-- the sum of two weights keeps the limit, for every such plan
abbrev pub FitsInEachPlan : {W : Type 0} (g : Ghosts W) → Pair W → g.Value → g.Value → Type 0
FitsInEachPlan g pair a b = InEachPlan g pair (λ n ls es u v. Fits (kind_of g) a b)
