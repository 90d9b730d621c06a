use Rattle.std.proofs.Common.{◌+◌, ◌≤◌, [], ◌∷◌, ◌++◌, length, ◌∙◌, subst, arith}
use Rattle.sheets.specs.Fields.{first, second, mark, weight, link_place, number_fields}
use Rattle.sheets.proofs.Firsts.{in_right}
use Rattle.readers.specs.Steps.{Stands}
use Rattle.readers.proofs.Exits.{broke, stopped}
use Rattle.readers.proofs.Heads.{whole}
use Rattle.readers.proofs.Linking.{first_read, second_read, mark_read, linked, next_link, weight_here}
use Rattle.readers.proofs.records.read_link.Goals as goal

pub returns-in_err-first-clause-reads : goal.returns-in_err-first-clause-reads
returns-in_err-first-clause-reads g c = λ at count sum.
    let w = g.W.Weight in
    let bs = c.args.cursor.now.bytes.now in
    let k = c.args.k in
    let s : Stands bs (link_place w bs k) c.enter.new.self = record { bytes = c.enter.ensures.bytes; place = c.enter.ensures.at ∙ at } in
    let f = first_read w bs k s c.enter.ensures.part count c.in_err-first.ensures in
    stopped [] (first k) (second k ∷ mark k ∷ (number_fields k w.PARTS ++ (weight k ∷ []))) c.from_residual.ensures.1 tt f.0

pub returns-in_err-second-clause-reads : goal.returns-in_err-second-clause-reads
returns-in_err-second-clause-reads g c = λ at count sum.
    let w = g.W.Weight in
    let bs = c.args.cursor.now.bytes.now in
    let k = c.args.k in
    let s : Stands bs (link_place w bs k) c.enter.new.self = record { bytes = c.enter.ensures.bytes; place = c.enter.ensures.at ∙ at } in
    let t0 = first_read w bs k s c.enter.ensures.part count c.in_ok-first.ensures in
    let f = second_read w bs k t0.1 t0.2 count t0.0.1.0 c.in_err-second.ensures in
    stopped (first k ∷ []) (second k) (mark k ∷ (number_fields k w.PARTS ++ (weight k ∷ []))) c.from_residual-in_err-second.ensures.1 (t0.0.0, tt) f.0

pub returns-in_err-in_service-clause-reads : goal.returns-in_err-in_service-clause-reads
returns-in_err-in_service-clause-reads g c = λ at count sum.
    let w = g.W.Weight in
    let bs = c.args.cursor.now.bytes.now in
    let k = c.args.k in
    let s : Stands bs (link_place w bs k) c.enter.new.self = record { bytes = c.enter.ensures.bytes; place = c.enter.ensures.at ∙ at } in
    let t0 = first_read w bs k s c.enter.ensures.part count c.in_ok-first.ensures in
    let t1 = second_read w bs k t0.1 t0.2 count t0.0.1.0 c.in_ok-second.ensures in
    let f = mark_read w bs k t1.1 t1.2 c.in_err-in_service.ensures in
    stopped (first k ∷ second k ∷ []) (mark k) (number_fields k w.PARTS ++ (weight k ∷ [])) c.from_residual-in_err-in_service.ensures.1 (t0.0.0, (t1.0.0, tt)) f.0

pub returns-in_err-weight-clause-reads : goal.returns-in_err-weight-clause-reads
returns-in_err-weight-clause-reads g c = λ at count sum.
    let w = g.W.Weight in
    let bs = c.args.cursor.now.bytes.now in
    let k = c.args.k in
    let s : Stands bs (link_place w bs k) c.enter.new.self = record { bytes = c.enter.ensures.bytes; place = c.enter.ensures.at ∙ at } in
    let t0 = first_read w bs k s c.enter.ensures.part count c.in_ok-first.ensures in
    let t1 = second_read w bs k t0.1 t0.2 count t0.0.1.0 c.in_ok-second.ensures in
    let t2 = mark_read w bs k t1.1 t1.2 c.in_ok-in_service.ensures in
    let v = weight_here w bs k t2.1 t2.2 sum c.in_err-weight.ensures.reads in
    let d = c.in_err-weight.field-0.0 in
    broke c.from_residual-in_err-weight.ensures.1
    (in_right w bs (first k ∷ second k ∷ mark k ∷ []) (number_fields k w.PARTS ++ (weight k ∷ [])) d (t0.0.0, (t1.0.0, (t2.0.0, tt))) v.taken)

pub returns-clause-reads : goal.returns-clause-reads
returns-clause-reads g c = λ at count sum.
    let w = g.W.Weight in
    let bs = c.args.cursor.now.bytes.now in
    let k = c.args.k in
    let s : Stands bs (link_place w bs k) c.enter.new.self = record { bytes = c.enter.ensures.bytes; place = c.enter.ensures.at ∙ at } in
    let t0 = first_read w bs k s c.enter.ensures.part count c.in_ok-first.ensures in
    let t1 = second_read w bs k t0.1 t0.2 count t0.0.1.0 c.in_ok-second.ensures in
    let t2 = mark_read w bs k t1.1 t1.2 c.in_ok-in_service.ensures in
    let v = weight_here w bs k t2.1 t2.2 sum c.in_ok-weight.ensures.reads in
    let len : link_place w bs k + 3 ≤ length bs = omega (arith, whole w bs (mark k) t2.0.0) in
    record {
      taken = (
        (t0.0.0, (t1.0.0, (t2.0.0, v.taken.0))),
        linked w bs k c.in_ok-first.first c.in_ok-second.second c.in_ok-in_service.in_service c.in_ok-weight.weight t0.0.1.0 t0.0.1.1 t1.0.1.0 t1.0.1.1 t1.0.1.2 t2.0.1 v.taken.1 len,
      );
      moved = subst (λ n. Stands bs n c.read_weight.new.cursor) (next_link w bs k) v.moved;
    }
