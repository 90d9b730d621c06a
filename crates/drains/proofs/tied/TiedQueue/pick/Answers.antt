use Rattle.std.proofs.Common.{◌≡◌, ◌<◌, length, get_or, None, refl, sym, ◌∙◌, arith}
use Rattle.std.proofs.lemmas.Option.{slice_get_read, get_or_from_slice_get}
use Rattle.queues.specs.Keys.{no_heavier}
use Rattle.queues.proofs.Orders.{ordered}
use Rattle.drains.specs.Ties.{keyed, keyed_within}
use Rattle.drains.proofs.Picking.{pick_skip, pick_keep, pick_new, pick_all}
use Rattle.drains.proofs.tied.TiedQueue.pick.Goals.{in-Some+then-preferred, in-Some+else-preferred, in_default}
use Rattle.drains.proofs.tied.TiedQueue.pick.Goals as goal

pub loop-group-preserved : goal.loop-group-preserved
loop-group-preserved g c =
    let w = g.W.Weight in
    let laws = ordered w.value g.met.W.Weight.laws g.met.W.Weight.bounded in
    let keys = c.args.self.now.keys in
    let tie = c.args.self.now.tie in
    let i = c.loop-group.group in
    let size = c.args.self.now.size in
    let low : i < length keys = omega arith in
    let own : keyed keys i ≡ get_or keys i c.key-item.result = get_or_from_slice_get keys i c.key-item.result None (slice_get_read keys (length keys) i c.key-item.result refl low c.key-item.is) ∙ c.key-item.is in
    elim c.match-key.branch [
      | in-Some+then-preferred w' ↦ rw w'.best-is (pick_new (no_heavier w) laws (keyed keys) i (omega arith) w'.in-Some.key (own ∙ w'.in-Some.is) tie c.loop-group.best c.loop-group.invariant (sym w'.preferred.ensures ∙ w'.if-preferred.true))
      | in-Some+else-preferred w' ↦ rw w'.best-is (pick_keep (no_heavier w) laws (keyed keys) i (omega arith) w'.in-Some.key (own ∙ w'.in-Some.is) tie c.loop-group.best c.loop-group.invariant (sym w'.preferred.ensures ∙ w'.if-preferred.false))
      | in_default w' ↦ rw w'.best-is (pick_skip (no_heavier w) laws tie (keyed keys) i (own ∙ w'.in_default.is) c.loop-group.best c.loop-group.invariant)
    ]

pub returns-clause-picked : goal.returns-clause-picked
returns-clause-picked g c =
    let w = g.W.Weight in
    let laws = ordered w.value g.met.W.Weight.laws g.met.W.Weight.bounded in
    let keys = c.args.self.now.keys in
    let size = c.args.self.now.size in
    let e : c.loop-group.group ≡ 64 = omega arith in
    let inv = rw e at c.loop-group.invariant in
    pick_all (no_heavier w) laws c.args.self.now.tie (keyed keys) (keyed_within keys c.args.self.now.size) c.loop-group.best inv
