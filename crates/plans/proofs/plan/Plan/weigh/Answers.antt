use Rattle.std.proofs.Common.{eqb, arith}
use Rattle.std.proofs.lemmas.List.Sums.{count_by-le-length}
use Rattle.std.proofs.lemmas.Bool.Decides.{nat_tests}
use Rattle.plans.proofs.Linking.{unit_size}
use Rattle.plans.proofs.plan.Plan.weigh.Goals as goal

pub returns-then-marks-units : goal.returns-then-marks-units
returns-then-marks-units g c = let size = unit_size c.args.self.now in grind (arith, nat_tests)

pub returns-then-count-eq0 : goal.returns-then-count-eq0
returns-then-count-eq0 g c = let size = unit_size c.args.self.now in grind (arith, nat_tests)

pub returns : goal.returns
returns g c =
    let size = unit_size c.args.self.now in
    let most = count_by-le-length (λ m. eqb m 1) c.args.marks.now in
    grind (arith, nat_tests)
