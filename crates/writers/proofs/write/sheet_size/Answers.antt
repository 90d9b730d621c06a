use Rattle.std.proofs.Common.{arith}
use Rattle.plans.specs.Model.{model_of}
use Rattle.sheets.proofs.Seen.{length_seen}
use Rattle.writers.proofs.write.sheet_size.Goals as goal

pub returns : goal.returns
returns g c =
    let size = length_seen g.W.Weight c.args.issue (model_of c.args.plan.now) c.requires in
    rw (c.unit_count.ensures.units, c.code_size.ensures, c.link_count.ensures.links, c.PARTS.ensures) (omega arith)
