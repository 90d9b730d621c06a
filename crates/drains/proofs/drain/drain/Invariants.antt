use Rattle.std.proofs.Common.{◌≡◌, ◌+◌, ◌≤◌, length, take, drop}
use Rattle.queues.specs.Keys.{no_heavier}
use Rattle.drains.proofs.Counts.{waiting_to}
use Rattle.drains.proofs.Draining.{Draining}
use Rattle.drains.proofs.drain.drain.Given as goal

abbrev pub invariant-loop-entry : goal.invariant-loop-entry
invariant-loop-entry g l =
    let q = g.Q.PriorityQueue in
    let w = g.W.Weight in
    q.sound l.queue × (length l.out ≡ length l.initial.out) × (l.count + waiting_to (q.key l.queue) 64 ≤ 64) × Draining (no_heavier w) (q.key l.initial.queue) (q.key l.queue) (take l.count l.out) × (drop l.count l.out ≡ drop l.count l.initial.out)

abbrev pub decreases-loop-entry : goal.decreases-loop-entry
decreases-loop-entry g l = waiting_to (g.Q.PriorityQueue.key l.queue) 64
