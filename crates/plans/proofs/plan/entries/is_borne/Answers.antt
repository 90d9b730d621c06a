use Rattle.std.proofs.Common.{rules, not, eqb, ◌&&◌, ◌∙◌}
use Rattle.std.proofs.lemmas.Iterator.{YieldsList-from_slice}
use Rattle.std.proofs.lemmas.Iterator.Consumers.{YieldsList-from_enumerate}
use Rattle.std.proofs.lemmas.Iterator.Search.{any_from_yields_List}
use Rattle.codes.specs.Held.{bytes_of}
use Rattle.plans.specs.Model.{code_of, same_text}
use Rattle.plans.proofs.Bearing.{borne_in}
use Rattle.plans.proofs.plan.entries.is_borne.Goals as goal

pub returns : goal.returns
returns c =
    let text = bytes_of c.args.code in
    any_from_yields_List (λ p. not (eqb p.0 c.args.but) && same_text (code_of p.1) text) _ _ c.any.result c.any.ensures.ran (YieldsList-from_enumerate (YieldsList-from_slice c.args.units.now cc) cc) (λ x b q k. search rules)
    ∙ borne_in 0 c.args.but text c.args.units.now
