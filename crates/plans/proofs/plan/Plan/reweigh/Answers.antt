use Rattle.std.proofs.Common.{refl, ap, arith}
use Rattle.std.proofs.lemmas.Bool.Decides.{nat_tests}
use Rattle.plans.specs.Model.{model_of, reweighed}
use Rattle.plans.proofs.Keeping.{replaced, sound_changed}
use Rattle.plans.proofs.Linking.{link_size_lem, others}
use Rattle.plans.proofs.Verdicts.{accepts, refuses}
use Rattle.plans.proofs.plan.Plan.reweigh.Goals as goal

pub overflow_sub-others : goal.overflow_sub-others
overflow_sub-others g c =
    let was = c.in_ok-old.ensures.value in
    let e = others c.args.self.now c.args.link c.in_ok-old.old was.0 was.1 in
    omega arith

pub returns-then-others-amount-gt-TOTAL : goal.returns-then-others-amount-gt-TOTAL
returns-then-others-amount-gt-TOTAL g c =
    let p = c.args.self.now in
    let was = c.in_ok-old.ensures.value in
    let e = others p c.args.link c.in_ok-old.old was.0 was.1 in
    let links = link_size_lem p in
    record { called = refuses tt (reweighed c.args.link c.args.weight (model_of p)) p (grind (arith, nat_tests)) }

pub invariant_of-self : goal.invariant_of-self
invariant_of-self g c =
    let p = c.args.self.now in
    let k = c.args.link in
    let d = c.index-self-link.result in
    let was = c.in_ok-old.ensures.value in
    let e = others p k c.in_ok-old.old was.0 was.1 in
    let a = c.amount-amount.ensures in
    let joins = p.sound.joins k d (omega arith) was.0 in
    record {
      sound = sound_changed p k (λ l. record { first = l.first; second = l.second; in_service = l.in_service; weight = c.args.weight }) d was.0 _
          (record { first = joins.first; second = joins.second; apart = joins.apart; weighty = omega arith })
          (omega arith)
          (omega arith);
    }

pub returns : goal.returns
returns g c =
    let p = c.args.self.now in
    let was = c.in_ok-old.ensures.value in
    let e = others p c.args.link c.in_ok-old.old was.0 was.1 in
    let links = link_size_lem p in
    record {
      called = accepts tt (reweighed c.args.link c.args.weight (model_of p)) p tt _ refl (grind (arith, nat_tests))
          (ap (λ ls. record { codes = (model_of p).codes; links = ls }) (replaced p c.args.link (λ l. record { first = l.first; second = l.second; in_service = l.in_service; weight = c.args.weight }) c.index-self-link.result was.0));
    }
