use Rattle.std.proofs.Common.{map, length, take, sym, refl, ap, ◌∙◌, subst, arith}
use Rattle.std.proofs.lemmas.List.{length-set}
use Rattle.std.proofs.lemmas.Bool.Decides.{nat_tests}
use Rattle.plans.specs.Model.{model_of, code_of, recoded, borne_by_other}
use Rattle.plans.specs.declared.plan.Unit.{Unit}
use Rattle.plans.specs.Sound.{Distinct}
use Rattle.plans.proofs.Apart.{codes_set, distinct_set}
use Rattle.plans.proofs.Bearing.{length_codes}
use Rattle.plans.proofs.Verdicts.{accepts}
use Rattle.plans.proofs.plan.Plan.recode.Goals as goal

pub invariant_of-self : goal.invariant_of-self
invariant_of-self g c =
    let p = c.args.self.now in
    let text = c.args.text.now in
    let unit : Unit = record { code = c.in_ok-code.code } in
    let code = c.in_ok-code.ensures.cases in
    let free = ap (λ t. borne_by_other c.args.unit t (model_of p).codes) (sym code.1) ∙ (sym c.is_borne.ensures ∙ c.if-is_borne.false) in
    let size = length_codes p.unit_count p.units (omega arith) in
    let codes = ap (λ us. map code_of (take p.unit_count us)) c.recode_at.ensures ∙ codes_set p.units p.unit_count c.args.unit unit text c.if-unit-count.false code.1 in
    record {
      sound = record {
        few = p.sound.few;
        short = p.sound.short;
        table = ap length c.recode_at.ensures ∙ (length-set p.units c.args.unit unit ∙ p.sound.table);
        memory = p.sound.memory;
        distinct = subst Distinct (sym codes) (distinct_set text (model_of p).codes c.args.unit (omega arith) p.sound.distinct free);
        joins = p.sound.joins;
        counted = p.sound.counted;
        limited = p.sound.limited;
      };
    }

pub returns : goal.returns
returns g c =
    let p = c.args.self.now in
    let n = p.unit_count in
    let text = c.args.text.now in
    let code = c.in_ok-code.ensures.cases in
    let size = length_codes n p.units (omega arith) in
    let free = ap (λ t. borne_by_other c.args.unit t (model_of p).codes) (sym code.1) ∙ (sym c.is_borne.ensures ∙ c.if-is_borne.false) in
    let codes = ap (λ us. map code_of (take n us)) c.recode_at.ensures ∙ codes_set p.units n c.args.unit (record { code = c.in_ok-code.code }) text c.if-unit-count.false code.1 in
    record { called = accepts tt (recoded c.args.unit text (model_of p)) p tt _ refl (grind (arith, nat_tests)) (ap (λ cs. record { codes = cs; links = (model_of p).links }) codes) }
