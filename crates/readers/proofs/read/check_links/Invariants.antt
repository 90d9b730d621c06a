use Rattle.readers.proofs.Checking.{Passing}
use Rattle.readers.proofs.read.check_links.Given as goal

abbrev pub invariant-loop-k : goal.invariant-loop-k
invariant-loop-k g l = Passing g.W.Weight l.initial.cursor.bytes.now l.k l.cursor l.total
