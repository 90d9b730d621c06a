use Rattle.std.proofs.Common.{rules, not, ◌&&◌, sym, ap, ◌∙◌}
use Rattle.std.proofs.lemmas.Bool.{eq-eqb, ne_eqb}
use Rattle.codes.specs.Held.{bytes_of}
use Rattle.plans.specs.Model.{code_of, same_text}
use Rattle.plans.proofs.Bearing.{same_decides}
use Rattle.plans.proofs.plan.entries.fn.is_borne.any.Goals as goal

pub returns-then-k-but : goal.returns-then-k-but
returns-then-k-but c =
    let s = same_text (code_of c.args.arg1.1.now) (bytes_of c.captures.code) in
    (sym (ap (λ b. not b && s) (ne_eqb _ _ c.if-k-but.true) ∙ same_decides _ _ _ c.eq.ensures.rule), search rules)

pub returns-else-k-but : goal.returns-else-k-but
returns-else-k-but c =
    let s = same_text (code_of c.args.arg1.1.now) (bytes_of c.captures.code) in
    let is = eq-eqb _ _ c.if-k-but.false in
    (ap not is ∙ sym (ap (λ b. not b && s) is), search rules)
