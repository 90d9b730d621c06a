use Rattle.std.proofs.Common.{sym, rules}
use Rattle.tables.proofs.Cells.{value_get_d, cell_within}
use Rattle.tables.proofs.table.Table.entry.Goals as goal

pub offset_bounds-self-row : goal.offset_bounds-self-row
offset_bounds-self-row g c = search (rules, cell_within)

pub returns-clause-value : goal.returns-clause-value
returns-clause-value g c =
    let table = c.args.self.now in
    sym (value_get_d g.W.Weight table.weights.now _ _ (cell_within c.args.row c.args.column table.units _ c.requires.row c.requires.column table.room))
