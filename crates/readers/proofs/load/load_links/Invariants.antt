use Rattle.plans.specs.Model.{model_of}
use Rattle.readers.proofs.Filling.{Filling}
use Rattle.readers.proofs.load.load_links.Given as goal

abbrev pub invariant-loop-k : goal.invariant-loop-k
invariant-loop-k g l = Filling g.W.Weight l.initial.cursor.bytes.now l.k l.cursor l.total (model_of l.initial.plan) l.plan
