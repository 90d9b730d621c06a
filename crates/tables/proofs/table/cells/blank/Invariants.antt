use Rattle.std.proofs.Common.{◌≡◌, ℕ, ◌<◌}
use Rattle.tables.specs.Meaning.{value_at}
use Rattle.tables.proofs.table.cells.blank.Given as goal

abbrev pub invariant-loop-entry : goal.invariant-loop-entry
invariant-loop-entry g l = (k : ℕ) → k < l.entry-index → value_at g.W.Weight l.entry-items k ≡ g.W.Weight.zero
