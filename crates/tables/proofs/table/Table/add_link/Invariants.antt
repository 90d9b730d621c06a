use Rattle.tables.proofs.table.Table.add_link.Given as goal

abbrev pub ghost-fill : goal.ghost-fill
ghost-fill g a = record { weights = a.self.now.weights.now; units = a.self.now.units; first = a.a; second = a.b; weight = a.weight }
