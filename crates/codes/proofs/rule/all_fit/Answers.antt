use Rattle.std.proofs.Common.{◌∙◌, rules, tests}
use Rattle.std.proofs.lemmas.Iterator.{YieldsList-from_slice}
use Rattle.std.proofs.lemmas.Iterator.Consumers.{YieldsList-from_enumerate}
use Rattle.std.proofs.lemmas.Iterator.Search.{all_from_yields_List}
use Rattle.codes.specs.Code.{fits_at}
use Rattle.codes.proofs.Steps.{fits_each}
use Rattle.codes.proofs.rule.all_fit.Goals as goal

pub returns : goal.returns
returns c =
    all_from_yields_List (λ p. fits_at p.0 p.1) _ _ c.all.result c.all.ensures.ran (YieldsList-from_enumerate (YieldsList-from_slice c.args.text.now cc) cc) (λ x b q k. search (rules, tests)) ∙ fits_each 0 c.args.text.now
