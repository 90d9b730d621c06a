use Rattle.std.proofs.Common.{refl, ap, arith}
use Rattle.std.proofs.lemmas.Bool.Decides.{nat_tests}
use Rattle.plans.specs.Model.{model_of, struck}
use Rattle.plans.proofs.Keeping.{sound_struck, taken_out}
use Rattle.plans.proofs.Linking.{link_size_lem, others}
use Rattle.plans.proofs.Verdicts.{accepts}
use Rattle.plans.proofs.plan.Plan.strike.Goals as goal

pub overflow_sub-self-2 : goal.overflow_sub-self-2
overflow_sub-self-2 g c =
    let was = c.in_ok-old.ensures.value in
    let e = others c.args.self.now c.args.link c.in_ok-old.old was.0 was.1 in
    omega arith

pub invariant_of-self : goal.invariant_of-self
invariant_of-self g c =
    let was = c.in_ok-old.ensures.value in
    let e = others c.args.self.now c.args.link c.in_ok-old.old was.0 was.1 in
    let m = c.copy_within.ensures in
    record { sound = sound_struck c.args.self.now c.args.link _ was.0 m.len m.by_index.1 m.by_index.0 _ c.in_ok-old.old was.1 (omega arith) }

pub returns : goal.returns
returns g c =
    let p = c.args.self.now in
    let was = c.in_ok-old.ensures.value in
    let m = c.copy_within.ensures in
    let links = link_size_lem p in
    record { called = accepts tt (struck c.args.link (model_of p)) p tt _ refl (grind (arith, nat_tests)) (ap (λ ls. record { codes = (model_of p).codes; links = ls }) (taken_out p c.args.link _ was.0 m.len m.by_index.1 m.by_index.0)) }
