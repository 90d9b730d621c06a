use Rattle.std.proofs.Common.{◌≡◌, not, eqb, ◌&&◌}
use Rattle.codes.specs.Held.{bytes_of}
use Rattle.plans.specs.Model.{code_of, same_text}
use Rattle.plans.proofs.plan.entries.fn.is_borne.any.Given as goal

abbrev pub ensures : goal.ensures
ensures l r = r ≡ (not (eqb l.k l.but) && same_text (code_of l.unit.entry.now) (bytes_of l.code))
