use Rattle.drains.proofs.Picking.{keyed_none}
use Rattle.drains.proofs.tied.no_keys.Goals as goal

pub returns-clause-empty : goal.returns-clause-empty
returns-clause-empty g c = λ k. keyed_none 64 k
