use Rattle.std.proofs.Common.{take, refl, subst₂, arith}
use Rattle.cuts.specs.Kinds.{kind_of}
use Rattle.cuts.specs.Outcomes.{Outcome}
use Rattle.contractions.proofs.contraction.contract.Goals as goal

pub returns-clause-outcome : goal.returns-clause-outcome
returns-clause-outcome g c = λ ls sound holds.
    let n = c.args.n in
    let (p, was, work) = c.begin-first.ensures.at n ls sound holds c.single.ensures refl refl in
    let (q, now, done, over) = c.run-best.ensures.at n ls p was work in
    subst₂ (λ ms es. Outcome (kind_of g.W.Weight) n ls (g.W.Weight.value c.finish.result.best) ms (take c.finish.result.mergers es) c.finish.result.scans) (grind arith) (grind arith) (c.finish.ensures.outcome n ls q now done over)
