use Rattle.std.proofs.Common.{◌≡◌, ◌<◌, length, set, ◌∙◌, arith, below_more}
use Rattle.tables.specs.Meaning.{value_at}
use Rattle.tables.proofs.Cells.{value_set_same, value_set_other}
use Rattle.tables.proofs.table.cells.blank.Goals as goal

pub loop-entry-preserved : goal.loop-entry-preserved
loop-entry-preserved g c =
    let i = c.loop-entry.entry-index in
    let room : i < length c.loop-entry.entry-items = omega arith in
    let w = c.nothing.result in
    below_more (λ k. value_at g.W.Weight (set c.loop-entry.entry-items i w) k ≡ g.W.Weight.zero) i
    (λ k lt. value_set_other g.W.Weight c.loop-entry.entry-items i k w (λ e. omega arith) ∙ c.loop-entry.invariant k lt)
    (value_set_same g.W.Weight c.loop-entry.entry-items i w room ∙ c.nothing.ensures)
