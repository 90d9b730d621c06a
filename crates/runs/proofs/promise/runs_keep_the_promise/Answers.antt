use Rattle.runs.proofs.Turns.{promised}
use Rattle.runs.proofs.promise.runs_keep_the_promise.Goals as goal

pub returns : goal.returns
returns g c = λ s t calls replies opened run.
    let met = g.met.W.Weight in
    promised g.W.Weight met.laws met.bounded met.exact met.narrow met.told s t run.turns opened run.follows
