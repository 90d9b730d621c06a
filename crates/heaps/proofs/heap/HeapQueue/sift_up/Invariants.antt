use Rattle.std.proofs.Common.{◌<◌}
use Rattle.queues.specs.Keys.{Unchanged, no_heavier}
use Rattle.queues.specs.Memory.{Unsettled}
use Rattle.heaps.specs.Tree.{Rising}
use Rattle.heaps.specs.Entries.{before}
use Rattle.heaps.specs.Heaped.{standing, heap_key, Kept}
use Rattle.heaps.proofs.heap.HeapQueue.sift_up.Given as goal

abbrev pub invariant-loop-i : goal.invariant-loop-i
invariant-loop-i g l = let w = g.W.Weight in Kept l.self × (l.i < l.self.count) × Rising (before (no_heavier w)) (standing l.self) l.self.count l.i × Unchanged (heap_key l.initial.self) (heap_key l.self) × Unsettled 64 l.initial.self.entries.now l.self.entries.now

abbrev pub decreases-loop-i : goal.decreases-loop-i
decreases-loop-i g l = l.i
