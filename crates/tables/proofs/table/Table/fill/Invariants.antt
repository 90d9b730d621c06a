use Rattle.tables.proofs.table.Table.fill.Given as goal

abbrev pub ghost-sum_in_filling : goal.ghost-sum_in_filling
ghost-sum_in_filling g a = g.filling
