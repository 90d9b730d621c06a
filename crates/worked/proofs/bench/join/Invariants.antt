use Rattle.filings.specs.Filed.{Filed}
use Rattle.weights.specs.contracts.plain.PlainWeight.TheImpl.{ghosts as plainKind}
use Rattle.worked.proofs.bench.join.Given as goal

abbrev pub invariant-loop-first : goal.invariant-loop-first
invariant-loop-first l = Filed plainKind l.initial.filing → Filed plainKind l.filing
