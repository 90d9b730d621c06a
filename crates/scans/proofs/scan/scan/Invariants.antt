use Rattle.std.proofs.Common.{◌≡◌, ℕ, List, length}
use Rattle.cuts.specs.declared.entry.Entry.{Entry}
use Rattle.cuts.specs.Links.{Link}
use Rattle.tables.specs.Meaning.{ExplainsIn}
use Rattle.scans.specs.Waits.{AllMarked}
use Rattle.scans.proofs.Counts.{marks}
use Rattle.scans.proofs.Raising.{Raising}
use Rattle.scans.proofs.Taking.{Taking}
use Rattle.scans.proofs.Turns.{Turn}
use Rattle.scans.proofs.scan.scan.Given as goal

abbrev pub invariant-loop-v : goal.invariant-loop-v
invariant-loop-v g l =
    let q = g.Q.PriorityQueue in
    let m = g.W.Weight in
    let n = l.graph.groups.now.units in
    record {
      sound : q.sound l.queue;
      units : l.found.classes.units ≡ n;
      len : length l.waiting ≡ 64;
      marked : AllMarked n (q.key l.queue) l.waiting;
      taking : (ls : List (Link m.Value)) (es : List Entry) → ExplainsIn m ls es l.graph → Taking m n ls es (m.value l.best) (q.key l.queue) l.waiting l.found;
    }

abbrev pub decreases-loop-v : goal.decreases-loop-v
decreases-loop-v g l = marks l.waiting l.graph.groups.now.units

abbrev pub invariant-loop-w : goal.invariant-loop-w
invariant-loop-w g l =
    let q = g.Q.PriorityQueue in
    let m = g.W.Weight in
    let n = l.graph.groups.now.units in
    record {
      sound : q.sound l.queue;
      units : l.found.classes.units ≡ n;
      marked : AllMarked n (q.key l.queue) l.waiting;
      raising : (ls : List (Link m.Value)) (es : List Entry) (taken : List ℕ) → Turn m n ls es taken l.v l.graph.weights.now (q.key l.initial.queue) l.waiting
          → Raising m n ls es taken l.v (m.value l.best) l.initial.found (q.key l.queue) l.found l.w;
    }
