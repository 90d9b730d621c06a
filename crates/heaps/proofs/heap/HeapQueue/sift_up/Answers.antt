use Rattle.std.proofs.Common.{ℕ, ◌-◌, ◌/◌, ◌<◌, sym, ◌∙◌, arith}
use Rattle.queues.specs.Keys.{no_heavier}
use Rattle.queues.proofs.Orders.{ordered}
use Rattle.heaps.specs.Entries.{before}
use Rattle.heaps.specs.Heaped.{standing}
use Rattle.heaps.proofs.Ranks.{entry_ranks}
use Rattle.heaps.proofs.Order.{parent_of, rise}
use Rattle.heaps.proofs.heap.HeapQueue.sift_up.Goals as goal

pub loop-i-preserved : goal.loop-i-preserved
loop-i-preserved g c =
    let w = g.W.Weight in
    let ranks = entry_ranks (no_heavier w) (ordered w.value g.met.W.Weight.laws g.met.W.Weight.bounded) in
    let q = c.loop-i.self in
    let after = c.swap.new.self in
    let i = c.loop-i.i in
    let p : ℕ = (i - 1) / 2 in
    let inv = c.loop-i.invariant in
    let lt = inv.1 in
    let count = c.swap.ensures.count in
    let up = parent_of i (omega arith) in
    let under : p < q.count = omega arith in
    let x = inv.0.agrees.here i lt in
    let y = inv.0.agrees.here p under in
    let wins = sym (c.is_before.ensures x.entry y.entry x.is y.is) ∙ c.if-not-is_before.false in
    let rising = rise (before (no_heavier w)) ranks (standing q) q.count (standing after) x.entry y.entry i p lt up inv.2 x.is y.is wins c.swap.ensures.swapped in
    (c.swap.ensures.kept, omega arith, rw count rising, λ k. c.swap.ensures.keys k ∙ inv.3 k, λ place far. c.swap.ensures.memory place far ∙ inv.4 place far)
