use Rattle.std.proofs.Common.{◌<◌, arith}
use Rattle.sheets.specs.Fields.{link_fields, links_in}
use Rattle.readers.proofs.Exits.{never_refused}
use Rattle.readers.proofs.Filling.{filling_more, can_join, has_room, clear_at}
use Rattle.readers.proofs.Linking.{link_here}
use Rattle.readers.proofs.load.load_links.Goals as goal

pub unwrap-link-requires : goal.unwrap-link-requires
unwrap-link-requires g c =
    let w = g.W.Weight in
    let bs = c.args.cursor.now.bytes.now in
    let k = c.loop-k.k in
    let was = c.loop-k.invariant in
    let lt : k < links_in bs = omega (arith, c.requires.links) in
    let v = link_here w bs k was.stands c.requires.units was.sum c.read_link.ensures.reads in
    never_refused w bs (link_fields w bs k) (clear_at w bs (link_fields w bs) (links_in bs) k lt c.requires.clear) v

pub load_link-requires : goal.load_link-requires
load_link-requires g c =
    let w = g.W.Weight in
    let bs = c.args.cursor.now.bytes.now in
    let k = c.loop-k.k in
    let was = c.loop-k.invariant in
    let v = link_here w bs k was.stands c.requires.units was.sum (rw c.unwrap-link.ensures at c.read_link.ensures.reads) in
    record {
      joins = can_join w bs was v c.requires.codes;
      room = omega (arith, c.loop-k.invariant.count, c.requires.short);
      limit = has_room w bs was v;
    }

pub loop-k-preserved : goal.loop-k-preserved
loop-k-preserved g c =
    let w = g.W.Weight in
    let bs = c.args.cursor.now.bytes.now in
    let k = c.loop-k.k in
    let was = c.loop-k.invariant in
    let v = link_here w bs k was.stands c.requires.units was.sum (rw c.unwrap-link.ensures at c.read_link.ensures.reads) in
    filling_more w bs was v c.load_link.new.plan c.load_link.ensures c.amount-total.ensures
