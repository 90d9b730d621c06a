use Rattle.queues.specs.Keys.{no_heavier}
use Rattle.drains.specs.Ties.{keyed, Picked}
use Rattle.drains.proofs.Picking.{up_to}
use Rattle.drains.proofs.tied.TiedQueue.pick.Given as goal

abbrev pub invariant-loop-group : goal.invariant-loop-group
invariant-loop-group g l = let w = g.W.Weight in Picked (no_heavier w) l.self.tie (up_to (keyed l.self.keys) l.group) l.best
