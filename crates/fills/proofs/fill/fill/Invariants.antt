use Rattle.std.proofs.Common.{◌≡◌, ◌*◌, ◌≤◌, [], length, take, drop}
use Rattle.plans.specs.Calls.{most_total}
use Rattle.plans.specs.Model.{total_of}
use Rattle.tables.specs.Meaning.{HoldsIn, SameMemory}
use Rattle.fills.specs.Served.{served}
use Rattle.fills.proofs.fill.fill.Given as goal

abbrev pub invariant-loop-link : goal.invariant-loop-link
invariant-loop-link g l = record {
  memory : SameMemory l.initial.table l.table;
  holds : total_of g.W.Weight l.links ≤ most_total → HoldsIn g.W.Weight (served g.W.Weight l.marks (take (length l.yielded) l.links)) [] l.table;
  rest : drop (l.initial.table.units * l.initial.table.units) l.table.weights.now ≡ drop (l.initial.table.units * l.initial.table.units) l.initial.table.weights.now;
}
