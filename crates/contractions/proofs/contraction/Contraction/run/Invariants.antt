use Rattle.std.proofs.Common.{◌≡◌, ℕ, ◌<◌, ◌≤◌, List}
use Rattle.cuts.specs.Kinds.{kind_of}
use Rattle.cuts.specs.Links.{Link}
use Rattle.cuts.specs.Records.{Point, Work}
use Rattle.queues.specs.Keys.{Empty}
use Rattle.contractions.specs.Working.{GoneOn, IsAt}
use Rattle.contractions.proofs.contraction.Contraction.run.Given as goal

abbrev pub invariant-loop-round : goal.invariant-loop-round
invariant-loop-round g l =
    let w = g.W.Weight in
    let q = g.Q.PriorityQueue in record {
      sound : q.sound l.queue;
      on : GoneOn l.initial.self l.self;
      scans : l.self.scans ≤ l._round;
      at : (n : ℕ) (ls : List (Link w.Value)) (p : Point) → IsAt w n ls p l.initial.self l.initial.best → Work (kind_of w) n ls p
          → (q : Point) × IsAt w n ls q l.self l.best × Work (kind_of w) n ls q × (l._round ≤ l.self.mergers);
      unscanned : l.self.scans ≡ 0 → l.queue ≡ l.initial.queue;
      scanned : 0 < l.self.scans → Empty (q.key l.queue);
    }
