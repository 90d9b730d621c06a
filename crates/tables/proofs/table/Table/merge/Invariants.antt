use Rattle.tables.specs.Meaning.{SameMemory}
use Rattle.tables.proofs.Turns.{Merging}
use Rattle.tables.proofs.table.Table.merge.Given as goal

abbrev pub ghost-sum_in_merger : goal.ghost-sum_in_merger
ghost-sum_in_merger g a = g.merger

abbrev pub invariant-loop-w : goal.invariant-loop-w
invariant-loop-w g l = record {
  memory : SameMemory l.initial.self l.self;
  merging : Merging g.W.Weight l.initial.self.units l.low l.high l.initial.self.weights.now l.groups l.self.weights.now l.w l.degree;
}
