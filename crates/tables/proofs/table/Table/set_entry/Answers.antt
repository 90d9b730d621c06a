use Rattle.std.proofs.Common.{rules}
use Rattle.tables.proofs.Cells.{cell_within}
use Rattle.tables.proofs.table.Table.set_entry.Goals as goal

pub offset_bounds-self-row : goal.offset_bounds-self-row
offset_bounds-self-row g c = search (rules, cell_within)
