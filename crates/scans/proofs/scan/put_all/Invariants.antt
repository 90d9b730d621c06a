use Rattle.std.proofs.Common.{false}
use Rattle.scans.specs.Waits.{AllMarked, Marks, present, Waits}
use Rattle.scans.proofs.scan.put_all.Given as goal

abbrev pub invariant-loop-g : goal.invariant-loop-g
invariant-loop-g g l =
    let q = g.Q.PriorityQueue in
    let m = g.W.Weight in
    record {
      sound : q.sound l.queue;
      waits : Waits m.value (q.key l.queue) (present l.g l.graph.groups.now) (λ _. m.zero);
      marked : AllMarked l.graph.groups.now.units (q.key l.queue) l.waiting;
      marks : Marks l.initial.waiting (λ _. false) → Marks l.waiting (present l.g l.graph.groups.now);
    }
