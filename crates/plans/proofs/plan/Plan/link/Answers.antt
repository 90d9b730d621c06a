use Rattle.std.proofs.Common.{length, arith}
use Rattle.std.proofs.lemmas.Bool.Decides.{nat_tests}
use Rattle.plans.specs.Model.{model_of, linked}
use Rattle.plans.proofs.Keeping.{sound_linked}
use Rattle.plans.proofs.Linking.{unit_size, link_size_lem}
use Rattle.plans.proofs.Verdicts.{refuses}
use Rattle.plans.proofs.plan.Plan.link.Goals as goal

pub returns-then-first-self-clause-called : goal.returns-then-first-self-clause-called
returns-then-first-self-clause-called g c =
    let p = c.args.self.now in
    let units = unit_size p in
    refuses (length (model_of p).links) (linked _ (model_of p)) p (grind (arith, nat_tests))

pub returns-then-first-second-clause-called : goal.returns-then-first-second-clause-called
returns-then-first-second-clause-called g c =
    let p = c.args.self.now in
    let units = unit_size p in
    refuses (length (model_of p).links) (linked _ (model_of p)) p (grind (arith, nat_tests))

pub returns-then-at-ge-LINKS-clause-called : goal.returns-then-at-ge-LINKS-clause-called
returns-then-at-ge-LINKS-clause-called g c =
    let p = c.args.self.now in
    let units = unit_size p in
    let links = link_size_lem p in
    refuses (length (model_of p).links) (linked _ (model_of p)) p (grind (arith, nat_tests))

pub returns-then-self-amount-gt-TOTAL-clause-called : goal.returns-then-self-amount-gt-TOTAL-clause-called
returns-then-self-amount-gt-TOTAL-clause-called g c =
    let p = c.args.self.now in
    let units = unit_size p in
    let links = link_size_lem p in
    refuses (length (model_of p).links) (linked _ (model_of p)) p (grind (arith, nat_tests))

pub invariant_of-self : goal.invariant_of-self
invariant_of-self g c =
    let a = c.amount-amount.ensures in
    record {
      sound = sound_linked c.args.self.now _ c.if-at-ge-LINKS.false _
          (record { first = c.if-first-self.false; second = c.if-second-self.false; apart = c.if-first-second.false; weighty = omega arith })
          (omega arith) (omega arith);
    }
