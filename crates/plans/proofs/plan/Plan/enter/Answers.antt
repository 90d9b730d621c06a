use Rattle.std.proofs.Common.{length, sym, ap, ◌∙◌, subst, arith}
use Rattle.std.proofs.lemmas.List.{length-set}
use Rattle.std.proofs.lemmas.Bool.Decides.{nat_tests}
use Rattle.plans.specs.Model.{model_of, entered}
use Rattle.plans.specs.Sound.{Distinct}
use Rattle.plans.proofs.Apart.{codes_more, distinct_more}
use Rattle.plans.proofs.Bearing.{length_codes, bearer_is}
use Rattle.plans.proofs.Verdicts.{accepts}
use Rattle.plans.proofs.plan.Plan.enter.Goals as goal

pub invariant_of-self : goal.invariant_of-self
invariant_of-self g c =
    let p = c.args.self.now in
    let n = p.unit_count in
    let text = c.args.text.now in
    let code = c.in_ok-code.ensures.cases in
    let free = bearer_is p.units n text _ _ (omega arith) code.1 c.is_borne.ensures ∙ c.if-is_borne.false in
    record {
      sound = record {
        few = omega arith;
        short = p.sound.short;
        table = length-set _ _ _ ∙ p.sound.table;
        memory = p.sound.memory;
        distinct = subst Distinct (sym (codes_more p.units n (record { code = c.in_ok-code.code }) text (omega arith) code.1)) (distinct_more text (model_of p).codes p.sound.distinct free);
        joins = λ k d low high. let j = p.sound.joins k d low high in record { first = omega (arith, j.first); second = omega (arith, j.second); apart = j.apart; weighty = j.weighty };
        counted = p.sound.counted;
        limited = p.sound.limited;
      };
    }

pub returns : goal.returns
returns g c =
    let p = c.args.self.now in
    let n = p.unit_count in
    let text = c.args.text.now in
    let code = c.in_ok-code.ensures.cases in
    let size = length_codes n p.units (omega arith) in
    let free = bearer_is p.units n text _ _ (omega arith) code.1 c.is_borne.ensures ∙ c.if-is_borne.false in
    record {
      called = accepts (length (model_of p).codes) (entered text (model_of p)) p n _ (sym size) (grind (arith, nat_tests))
          (ap (λ cs. record { codes = cs; links = (model_of p).links }) (codes_more p.units n (record { code = c.in_ok-code.code }) text (omega arith) code.1));
    }
