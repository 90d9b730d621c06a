use Rattle.std.proofs.Common.{◌-◌, ◌≤◌}
use Rattle.queues.specs.Keys.{Unchanged, no_heavier}
use Rattle.queues.specs.Memory.{Unsettled}
use Rattle.heaps.specs.Tree.{Sinking}
use Rattle.heaps.specs.Entries.{before}
use Rattle.heaps.specs.Heaped.{standing, heap_key, Kept}
use Rattle.heaps.proofs.heap.HeapQueue.sift_down.Given as goal

abbrev pub invariant-loop-child : goal.invariant-loop-child
invariant-loop-child g l = let w = g.W.Weight in Kept l.self × (l.i ≤ 64) × Sinking (before (no_heavier w)) (standing l.self) l.self.count l.i × Unchanged (heap_key l.initial.self) (heap_key l.self) × Unsettled 64 l.initial.self.entries.now l.self.entries.now

abbrev pub decreases-loop-child : goal.decreases-loop-child
decreases-loop-child g l = 64 - l.i
