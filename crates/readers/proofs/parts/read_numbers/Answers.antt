use Rattle.std.proofs.Common.{◌<◌, [], ◌∷◌, length, ◌∙◌, arith}
use Rattle.sheets.specs.Fields.{number}
use Rattle.sheets.proofs.Firsts.{fault_at_lem, in_one}
use Rattle.readers.proofs.Exits.{broke}
use Rattle.readers.proofs.Weighing.{number_read, numbering_more}
use Rattle.readers.proofs.parts.read_numbers.Goals as goal

pub loop-part-preserved : goal.loop-part-preserved
loop-part-preserved g c = (
  c.in_ok-part.ensures.within ∙ c.loop-part.invariant.0,
  λ k w at.
      let wt = g.W.Weight in
      let bs = c.args.cursor.now.bytes.now in
      let i = c.loop-part.part-index in
      let was = c.loop-part.invariant.1 k w at in
      let t = number_read wt bs k i was.stands was.within c.in_ok-part.ensures in
      let room : i < length c.loop-part.part-items = omega (arith, c.loop-part.auto.part-items) in
      numbering_more wt bs k room was t.0.0 t.0.1.0 t.0.1.1 t.1 t.2,
)

pub returns-in_err-part-clause-reads : goal.returns-in_err-part-clause-reads
returns-in_err-part-clause-reads g c = λ k w at.
    let wt = g.W.Weight in
    let bs = c.args.cursor.now.bytes.now in
    let i = c.loop-part.part-index in
    let n = length c.args.parts.now in
    let d = c.in_err-part.field-0.0 in
    let was = c.loop-part.invariant.1 k w at in
    let t = number_read wt bs k i was.stands was.within c.in_err-part.ensures in
    let lt : i < n = omega arith in
    broke c.from_residual.ensures.1
    (fault_at_lem wt bs (λ j. number k j ∷ []) n i d lt was.clear (in_one wt bs (number k i) d t.0))
