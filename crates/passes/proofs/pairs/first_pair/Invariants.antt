use Rattle.std.proofs.Common.{ℕ, ◌<◌, List}
use Rattle.cuts.specs.declared.entry.Entry.{Entry}
use Rattle.cuts.specs.Kinds.{kind_of}
use Rattle.cuts.specs.Links.{Link}
use Rattle.tables.specs.Meaning.{Explains}
use Rattle.passes.proofs.Readings.{PassedOver}
use Rattle.passes.proofs.pairs.first_pair.Given as goal

-- no pair with a lower group so far meets a test
abbrev pub invariant-loop-u : goal.invariant-loop-u
invariant-loop-u g l =
    let m = g.W.Weight in
    (ls : List (Link m.Value)) (es : List Entry) → Explains m l.graph.groups.now.units ls es l.graph.weights.now l.graph.groups.now → (a : ℕ) → a < l.u → (b : ℕ) → PassedOver (kind_of m) l.graph.groups.now.units ls es (m.value l.best) a b

-- no pair of the lower group u with a higher one so far meets a test
abbrev pub invariant-loop-v : goal.invariant-loop-v
invariant-loop-v g l =
    let m = g.W.Weight in
    (ls : List (Link m.Value)) (es : List Entry) → Explains m l.graph.groups.now.units ls es l.graph.weights.now l.graph.groups.now → (b : ℕ) → b < l.v → PassedOver (kind_of m) l.graph.groups.now.units ls es (m.value l.best) l.u b
