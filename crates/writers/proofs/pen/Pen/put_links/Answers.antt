use Rattle.sheets.specs.Format.{link_bytes}
use Rattle.writers.proofs.Steps.{room_next, put_next}
use Rattle.writers.proofs.pen.Pen.put_links.Goals as goal

pub put_link-requires : goal.put_link-requires
put_link-requires g c =
    room_next (link_bytes g.W.Weight) c.args.links.now c.loop-link.link-index c.link-item.is c.loop-link-test.true c.loop-link.invariant c.requires

pub loop-link-preserved : goal.loop-link-preserved
loop-link-preserved g c = put_next (link_bytes g.W.Weight) c.args.links.now c.loop-link.link-index c.link-item.is c.loop-link-test.true c.loop-link.invariant c.put_link.ensures
