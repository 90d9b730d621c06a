use Rattle.std.proofs.Common.{◌-◌, None, ◌∙◌, arith}
use Rattle.queues.proofs.Slotted.{update_ap}
use Rattle.heaps.specs.Heaped.{placed, standing, heap_key}
use Rattle.heaps.proofs.Changes.{pop_keys}
use Rattle.heaps.proofs.heap.HeapQueue.pop.Goals as goal

pub returns-clause-keys : goal.returns-clause-keys
returns-clause-keys g c =
    let q = c.args.self.now in
    let after = c.swap.new.self in
    let swapped = c.swap.ensures in
    let count = swapped.count in
    let some = c.requires.some in
    λ e top k.
    c.sift_down.ensures.keys k
    ∙ pop_keys (standing after) (placed after.places) after.count (q.count - 1) swapped.kept.agrees (omega arith) e (swapped.swapped.right ∙ top) k
    ∙ update_ap (heap_key after) (heap_key q) e.group k None swapped.keys
