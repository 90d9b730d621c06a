use Rattle.tables.proofs.table.Table.merge_rows.Given as goal

abbrev pub ghost-merge : goal.ghost-merge
ghost-merge g a = record { weights = a.self.now.weights.now; units = a.self.now.units; groups = a.groups.now; low = a.low; high = a.high }
