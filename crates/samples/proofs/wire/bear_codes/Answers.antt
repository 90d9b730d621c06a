use Rattle.std.proofs.Common.{rules, tests, ◌≡◌, ◌≢◌}
use Rattle.std.proofs.lemmas.Iterator.{YieldsList-from_slice, YieldsList-from_zip, cases_from_all}
use Rattle.plans.specs.Model.{code_of}
use Rattle.samples.proofs.Zipped.{all_decided}
use Rattle.samples.proofs.wire.bear_codes.Goals as goal

pub returns-then-units-codes : goal.returns-then-units-codes
returns-then-units-codes c =
    let told = all_decided (λ p. code_of p.0 ≡ p.1.items) _ _ (cases_from_all c.all.new.self _ _ (λ p. code_of p.0 ≡ p.1.items) (λ p. code_of p.0 ≢ p.1.items) c.all.ensures.ran (YieldsList-from_zip (YieldsList-from_slice c.args.units.now cc) (YieldsList-from_slice c.args.codes.now cc)) (λ x q k. search (rules, tests)) (λ x q k. search (rules, tests))) in
    search (rules, told)
