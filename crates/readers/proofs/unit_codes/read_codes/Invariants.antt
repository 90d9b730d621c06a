use Rattle.readers.proofs.Coding.{Coding}
use Rattle.readers.proofs.unit_codes.read_codes.Given as goal

abbrev pub invariant-loop-k : goal.invariant-loop-k
invariant-loop-k g l = Coding g.W.Weight l.initial.cursor.bytes.now l.k l.cursor l.units
