use Rattle.std.proofs.Common.{[]}
use Rattle.cuts.specs.Groups.{group}
use Rattle.cuts.specs.Records.{begin}
use Rattle.contractions.proofs.Works.{at_start}
use Rattle.contractions.proofs.contraction.Contraction.begin.Goals as goal

pub returns-clause-at : goal.returns-clause-at
returns-clause-at g c = λ n ls sound holds tracks mergers scans.
    let w = g.W.Weight in
    let u = c.lightest-unit.result in
    let told = rw (c.graph.ensures.weights, c.graph.ensures.groups, tracks.units) at (c.lightest-unit.ensures.lightest ls) in
    let unit = rw (c.graph.ensures.groups, tracks.units) at c.lightest-unit.ensures.unit in
    let degree = rw (c.graph-2.ensures.weights, c.graph-2.ensures.groups, tracks.units) at c.entry.ensures.value in
    let marked = rw tracks.units at c.mark_group.ensures.marked in
    (record { done = []; best = group [] u; scans = 0 }, rw (mergers, scans) (at_start w n ls _ _ _ _ _ u unit sound holds tracks degree marked), begin u (told holds))
