use Rattle.filings.specs.Filed.{Filed}
use Rattle.weights.specs.contracts.plain.PlainWeight.TheImpl.{ghosts as plainKind}
use Rattle.worked.proofs.bench.follow.Given as goal

abbrev pub invariant-loop-next : goal.invariant-loop-next
invariant-loop-next g l = Filed plainKind l.initial.filing → Filed plainKind l.filing
