use Rattle.std.proofs.Common.{rules}
use Rattle.scans.proofs.scan.put_all.Goals as goal
use Rattle.scans.proofs.scan.put_all.Goals.{then-stands, else-stands}

pub loop-g-preserved : goal.loop-g-preserved
loop-g-preserved g c = elim c.if-stands.branch [
  | then-stands w ↦ record { sound = search rules; waits = search rules; marked = search rules; marks = search rules }
  | else-stands w ↦ record { sound = search rules; waits = search rules; marked = search rules; marks = search rules }
]
