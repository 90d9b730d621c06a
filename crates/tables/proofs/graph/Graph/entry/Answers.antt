use Rattle.std.proofs.Common.{sym, rules}
use Rattle.tables.proofs.Cells.{value_get_d, cell_within}
use Rattle.tables.proofs.graph.Graph.entry.Goals as goal

pub offset_bounds-self-row : goal.offset_bounds-self-row
offset_bounds-self-row g c = rw c.units.ensures (search (rules, cell_within))

pub returns-clause-value : goal.returns-clause-value
returns-clause-value g c =
    let graph = c.args.self.now in
    rw c.units.ensures (sym (value_get_d g.W.Weight graph.weights.now _ _ (cell_within c.args.row c.args.column graph.groups.now.units _ c.requires.row c.requires.column graph.room)))
