use Rattle.std.proofs.Common.{◌<◌, List, []}
use Rattle.cuts.specs.Kinds.{kind_of}
use Rattle.cuts.specs.Links.{Link}
use Rattle.cuts.specs.Records.{Lightest}
use Rattle.tables.specs.Meaning.{Holds}
use Rattle.tables.proofs.graph.Graph.lightest.Given as goal

abbrev pub invariant-loop-u : goal.invariant-loop-u
invariant-loop-u g l = (l.unit < l.self.groups.now.units) × ((ls : List (Link g.W.Weight.Value)) → Holds g.W.Weight l.self.groups.now.units ls [] l.self.weights.now → Lightest (kind_of g.W.Weight) l.u ls l.unit)
