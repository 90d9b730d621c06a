use Rattle.std.proofs.Common.{◌∙◌, arith}
use Rattle.queues.specs.Keys.{Empty}
use Rattle.contractions.proofs.Sparing.{gone_on_then}
use Rattle.contractions.proofs.Works.{scanned_next}
use Rattle.contractions.proofs.contraction.Contraction.run.Goals as goal

pub loop-round-preserved : goal.loop-round-preserved
loop-round-preserved g c =
    let inv = c.loop-round.invariant in
    let r = c.round-best.ensures in
    record {
      sound = r.sound;
      on = gone_on_then inv.on r.on;
      scans = omega arith;
      at = λ n ls p was work.
          let (q, now, done, many) = inv.at n ls p was work in
          let on = c.if-not-goes_on.ensures.over n ls q now in
          let (next, later, more, gained) = r.at n ls q now done on in
          (next, later, more, omega arith);
      unscanned = λ h. let s = r.on.scans in r.unscanned (omega arith) ∙ inv.unscanned (omega arith);
      scanned = scanned_next (λ q. Empty (g.Q.PriorityQueue.key q)) _ _ _ _ r.on.scans r.unscanned r.scanned inv.scanned;
    }
