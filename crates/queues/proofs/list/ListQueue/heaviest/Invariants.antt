use Rattle.queues.specs.Keys.{no_heavier}
use Rattle.queues.specs.Slots.{Best, waiting}
use Rattle.queues.proofs.list.ListQueue.heaviest.Given as goal

abbrev pub invariant-loop-group : goal.invariant-loop-group
invariant-loop-group g l = Best (no_heavier g.W.Weight) (waiting l.self.slots.now l.group) l.best
