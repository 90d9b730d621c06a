use Rattle.filings.specs.Filed.{Filed}
use Rattle.weights.specs.contracts.plain.PlainWeight.TheImpl.{ghosts as plainKind}
use Rattle.worked.proofs.bench.enter_units.Given as goal

abbrev pub invariant-loop-k : goal.invariant-loop-k
invariant-loop-k l = Filed plainKind l.initial.filing → Filed plainKind l.filing
