use Rattle.filings.specs.Filed.{Filed}
use Rattle.random_calls.proofs.run.Given as goal

abbrev pub invariant-loop-turn : goal.invariant-loop-turn
invariant-loop-turn g l = Filed g.W.Weight l.caller.filing
