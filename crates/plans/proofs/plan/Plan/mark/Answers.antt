use Rattle.std.proofs.Common.{eqb, refl, ap, arith}
use Rattle.std.proofs.lemmas.Bool.Decides.{nat_tests}
use Rattle.plans.specs.Marks.{with_mark}
use Rattle.plans.specs.Model.{marked, model_of}
use Rattle.plans.proofs.Keeping.{replaced}
use Rattle.plans.proofs.Linking.{link_size_lem}
use Rattle.plans.proofs.Marking.{sound_marked}
use Rattle.plans.proofs.Verdicts.{accepts}
use Rattle.plans.proofs.plan.Plan.mark.Goals as goal

pub invariant_of-self : goal.invariant_of-self
invariant_of-self g c = record { sound = sound_marked c.args.self.now c.args.link (eqb c.args.mark 1) c.index-self-link.result c.if-link-self.false }

pub returns : goal.returns
returns g c =
    let p = c.args.self.now in
    let links = link_size_lem p in
    record {
      called = accepts tt (marked c.args.link (eqb c.args.mark 1) (model_of p)) p tt _ refl (grind (arith, nat_tests))
          (ap (λ ls. record { codes = (model_of p).codes; links = ls }) (replaced p c.args.link (λ l. with_mark l (eqb c.args.mark 1)) c.index-self-link.result c.if-link-self.false));
    }
