use Rattle.std.proofs.Common.{rules}
use Rattle.writers.proofs.Verdict.{long_in, fitting, refusing}
use Rattle.writers.proofs.write.issue_for.Goals.{else-eq-via-then-eq+else-any_long, else-eq-via-else-eq}
use Rattle.writers.proofs.write.issue_for.Goals as goal

pub returns-then-any_long : goal.returns-then-any_long
returns-then-any_long g c =
    refusing c.args.plan.now c.args.number c.in_ok-issue.issue c.in_ok-issue.ensures (search rules) (cc (long_in c.units.result.now))

pub returns : goal.returns
returns g c =
    elim c.else-eq.branch [
      | else-eq-via-then-eq+else-any_long w ↦ fitting c.args.plan.now c.args.number c.in_ok-issue.issue c.in_ok-issue.ensures (λ _. cc (long_in w.units.result.now))
      | else-eq-via-else-eq w ↦ fitting c.args.plan.now c.args.number c.in_ok-issue.issue c.in_ok-issue.ensures (λ is. search rules)
    ]
