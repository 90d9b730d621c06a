use Rattle.std.proofs.Common.{rules, tests, ◌≡◌, ◌≢◌}
use Rattle.std.proofs.lemmas.Iterator.{YieldsList-from_slice, YieldsList-from_zip, cases_from_all}
use Rattle.samples.specs.Wires.{wire_of}
use Rattle.samples.proofs.Zipped.{all_decided}
use Rattle.samples.proofs.wire.are_wires.Goals as goal

pub returns-then-links-wires : goal.returns-then-links-wires
returns-then-links-wires g c =
    let told = all_decided (λ p. wire_of g.W.Weight p.0 ≡ p.1) _ _ (cases_from_all c.all.new.self _ _ (λ p. wire_of g.W.Weight p.0 ≡ p.1) (λ p. wire_of g.W.Weight p.0 ≢ p.1) c.all.ensures.ran (YieldsList-from_zip (YieldsList-from_slice c.args.links.now cc) (YieldsList-from_slice c.args.wires.now cc)) (λ x q k. search (rules, tests)) (λ x q k. search (rules, tests))) in
    search (rules, told)
