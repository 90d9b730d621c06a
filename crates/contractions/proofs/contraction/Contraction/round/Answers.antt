use Rattle.std.proofs.Common.{subst, arith}
use Rattle.cuts.specs.Kinds.{kind_of}
use Rattle.cuts.specs.Records.{merge, merge_found, next_scan}
use Rattle.cuts.specs.Tests.{First, None}
use Rattle.cuts.proofs.Works.{goes_on}
use Rattle.scans.specs.Scanned.{Scanned, pairs_of}
use Rattle.contractions.proofs.Rounds.{seen, at_scan, first_stands, test_work, scan_work, scan_more}
use Rattle.contractions.proofs.contraction.Contraction.round.Goals as goal

pub returns-in-Some-clause-at : goal.returns-in-Some-clause-at
returns-in-Some-clause-at g c = λ n ls p was work on.
    let w = g.W.Weight in
    let (units, explains) = seen w n ls p _ _ _ _ _ was c.graph-graph.result c.graph-graph.ensures.weights c.graph-graph.ensures.groups in
    let first = subst (λ m. First (kind_of w) m ls p.done (w.value c.args.best) c.in-Some.u c.in-Some.v c.in-Some.ground) units (c.in-Some.ensures.passed ls p.done explains) in
    let e = c.merger_of in
    let (less, low, high) = first_stands w n ls p _ _ _ _ _ was work on _ _ _ first e.result e.ensures in
    let more = c.merge.ensures.mergers in
    (merge (kind_of w) n ls p e.result, c.merge.ensures.at n ls p was low high less, test_work w n ls p _ _ _ _ _ was work on _ _ _ first e.result e.ensures, omega arith)

pub returns-in-None-clause-at : goal.returns-in-None-clause-at
returns-in-None-clause-at g c = λ n ls p was work on.
    let w = g.W.Weight in
    let laws = g.met.W.Weight.laws in
    let pairs = pairs_of c.scan-found.result in
    let few = (goes_on (kind_of w) laws n ls was.explains.sound p on).0 in
    let (units, explains) = seen w n ls p _ _ _ _ _ was c.graph-graph.result c.graph-graph.ensures.weights c.graph-graph.ensures.groups in
    let none = subst (λ m. None (kind_of w) m ls p.done (w.value c.args.best)) units (c.in-None.ensures.passed ls p.done explains) in
    let finds = subst (λ m. Scanned (kind_of w) m ls p.done (w.value c.args.best) pairs) units (c.scan-found.ensures.found ls p.done explains) in
    let now = c.merge_found.ensures.at n ls (next_scan (kind_of w) n ls p) (at_scan w n ls p _ _ _ _ _ was) in
    let more = scan_more w n ls p _ _ _ _ _ was work on laws (omega arith) none pairs finds in
    (merge_found (kind_of w) n ls pairs (next_scan (kind_of w) n ls p), now, scan_work w n ls p _ _ _ _ _ was work on laws (omega arith) none pairs finds, omega (arith, more, was.mergers, now.mergers))
