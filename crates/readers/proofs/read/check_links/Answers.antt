use Rattle.std.proofs.Common.{◌≡◌, ◌<◌, [], ◌∷◌, arith}
use Rattle.sheets.specs.Fields.{end, link_fields, links_in, through}
use Rattle.sheets.proofs.Firsts.{fault_at_lem, in_left}
use Rattle.readers.proofs.Checking.{passing_more, ended}
use Rattle.readers.proofs.Exits.{broke}
use Rattle.readers.proofs.Linking.{link_here}
use Rattle.readers.proofs.read.check_links.Goals as goal

pub loop-k-preserved : goal.loop-k-preserved
loop-k-preserved g c =
    let w = g.W.Weight in
    let bs = c.args.cursor.now.bytes.now in
    let k = c.loop-k.k in
    let was = c.loop-k.invariant in
    let v = link_here w bs k was.stands c.requires.units was.sum c.in_ok-link.ensures.reads in
    passing_more w bs was v c.amount-total.ensures

pub returns-in_err-link : goal.returns-in_err-link
returns-in_err-link g c =
    let w = g.W.Weight in
    let bs = c.args.cursor.now.bytes.now in
    let k = c.loop-k.k in
    let d = c.in_err-link.field-0.0 in
    let was = c.loop-k.invariant in
    let v = link_here w bs k was.stands c.requires.units was.sum c.in_err-link.ensures.reads in
    let lt : k < links_in bs = omega (arith, c.requires.links) in
    let all = through (link_fields w bs) (links_in bs) in
    broke c.from_residual.ensures.1
    (in_left w bs all (end ∷ []) d (fault_at_lem w bs (link_fields w bs) (links_in bs) k d lt c.loop-k.invariant.clear v.taken))

pub returns : goal.returns
returns g c =
    let w = g.W.Weight in
    let bs = c.args.cursor.now.bytes.now in
    let e : c.loop-k.k ≡ links_in bs = omega (arith, c.requires.links) in
    ended w bs (rw e at c.loop-k.invariant) c.end.ensures
