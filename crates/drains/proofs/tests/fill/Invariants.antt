use Rattle.drains.proofs.tests.fill.Given as goal

abbrev pub invariant-loop-group : goal.invariant-loop-group
invariant-loop-group g l = g.Q.PriorityQueue.sound l.queue

abbrev pub invariant-loop-group-2 : goal.invariant-loop-group-2
invariant-loop-group-2 g l = g.Q.PriorityQueue.sound l.queue
