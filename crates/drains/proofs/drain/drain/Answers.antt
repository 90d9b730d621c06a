use Rattle.std.proofs.Common.{◌≡◌, ◌+◌, ◌<◌, length, refl, ◌∙◌, arith, length-set}
use Rattle.queues.specs.Keys.{no_heavier}
use Rattle.drains.proofs.Counts.{waiting_to, waiting_most, waiting_less}
use Rattle.drains.proofs.Draining.{drain_none, drain_set, drop_more_set}
use Rattle.drains.proofs.drain.drain.Goals as goal

-- one entry fewer waits
fewer : (g : _) (c : goal.In-Some g) → waiting_to (g.Q.PriorityQueue.key c.take.new.self) 64 + 1 ≡ waiting_to (g.Q.PriorityQueue.key c.loop-entry.queue) 64
fewer g c =
    let q = g.Q.PriorityQueue in
    let before = q.key c.loop-entry.queue in
    let taken = c.in-Some.ensures.taken in
    waiting_less before (q.key c.take.new.self) c.in-Some.entry.0 taken.1 64 taken.0.group c.in-Some.entry.1 taken.0.here

pub loop-entry-init : goal.loop-entry-init
loop-entry-init g c =
    let w = g.W.Weight in
    let key = g.Q.PriorityQueue.key c.args.queue.now in
    let most = waiting_most key 64 in
    (c.requires.sound, refl, omega arith, drain_none (no_heavier w) key, refl)

-- there is a place for it
place : (g : _) (c : goal.In-Some g) → c.loop-entry.count < length c.loop-entry.out
place g c = let less = fewer g c in let inv = c.loop-entry.invariant in omega arith

pub bounds-out-count : goal.bounds-out-count
bounds-out-count g c = place g c

pub loop-entry-smaller : goal.loop-entry-smaller
loop-entry-smaller g c = let less = fewer g c in omega arith

pub loop-entry-preserved : goal.loop-entry-preserved
loop-entry-preserved g c =
    let q = g.Q.PriorityQueue in
    let w = g.W.Weight in
    let inv = c.loop-entry.invariant in
    let out = c.loop-entry.out in
    let count = c.loop-entry.count in
    let less = fewer g c in
    let room = place g c in
    let taken = c.in-Some.ensures.taken in (
      c.take.ensures.sound,
      length-set out count _ ∙ inv.1,
      omega arith,
      drain_set (no_heavier w) (q.key c.args.queue.now) (q.key c.loop-entry.queue) (q.key c.take.new.self) out count _ room inv.3 taken.0 taken.1,
      drop_more_set out c.args.out.now count _ inv.4,
    )
