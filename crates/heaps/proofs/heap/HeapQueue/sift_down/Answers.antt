use Rattle.std.proofs.Common.{sym, ◌∙◌}
use Rattle.queues.specs.Keys.{no_heavier}
use Rattle.queues.proofs.Orders.{ordered}
use Rattle.heaps.specs.Entries.{before}
use Rattle.heaps.specs.Heaped.{standing}
use Rattle.heaps.proofs.Ranks.{entry_ranks}
use Rattle.heaps.proofs.Order.{sink_end}
use Rattle.heaps.proofs.heap.HeapQueue.sift_down.Goals as goal

pub returns-then-not-is_before-clause-sound : goal.returns-then-not-is_before-clause-sound
returns-then-not-is_before-clause-sound g c =
    let w = g.W.Weight in
    let ranks = entry_ranks (no_heavier w) (ordered w.value g.met.W.Weight.laws g.met.W.Weight.bounded) in
    let q = c.loop-child.self in
    let inv = c.loop-child.invariant in
    let eldest = c.in-Some.ensures in
    let x = inv.0.agrees.here c.in-Some.child eldest.1 in
    record {
      kept = inv.0;
      order = sink_end (before (no_heavier w)) ranks (standing q) q.count c.loop-child.i inv.2
          (λ k child lt a b ia kb. ranks.chain b x.entry a (eldest.2 k child lt x.entry b x.is kb) (sym (c.is_before.ensures x.entry a x.is ia) ∙ c.if-not-is_before.true));
    }
