use Rattle.std.proofs.Common.{◌<◌, [], ◌∷◌, length, take, arith}
use Rattle.std.proofs.lemmas.List.{length-take-le}
use Rattle.sheets.specs.Fields.{code, units_in}
use Rattle.sheets.proofs.Firsts.{fault_at_lem, in_one}
use Rattle.readers.proofs.Coding.{code_read, coding_more}
use Rattle.readers.proofs.Exits.{broke}
use Rattle.readers.proofs.unit_codes.read_codes.Goals as goal

pub loop-k-preserved : goal.loop-k-preserved
loop-k-preserved g c =
    let w = g.W.Weight in
    let bs = c.args.cursor.now.bytes.now in
    let k = c.loop-k.k in
    let us = c.loop-k.units in
    let t = code_read w bs k (take k us) c.loop-k.invariant.stands c.requires.issue (length-take-le k us (omega arith)) c.loop-k.invariant.texts c.in_ok-code.ensures in
    let room : k < length us = omega arith in
    coding_more w bs c.in_ok-code.code room c.loop-k.invariant t.0.0 t.0.1 t.1

pub returns-in_err-code : goal.returns-in_err-code
returns-in_err-code g c =
    let w = g.W.Weight in
    let bs = c.args.cursor.now.bytes.now in
    let k = c.loop-k.k in
    let us = c.loop-k.units in
    let d = c.in_err-code.field-0.0 in
    let t = code_read w bs k (take k us) c.loop-k.invariant.stands c.requires.issue (length-take-le k us (omega arith)) c.loop-k.invariant.texts c.in_err-code.ensures in
    let lt : k < units_in bs = omega (arith, c.requires.count) in
    broke c.from_residual.ensures.1
    (fault_at_lem w bs (λ j. code j ∷ []) (units_in bs) k d lt c.loop-k.invariant.clear (in_one w bs (code k) d t.0))
