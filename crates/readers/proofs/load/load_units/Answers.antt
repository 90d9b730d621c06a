use Rattle.std.proofs.Common.{length, ap, ◌∙◌}
use Rattle.plans.specs.Model.{code_of, entered, model_of}
use Rattle.plans.specs.Calls.{enter_verdict}
use Rattle.readers.proofs.Loading.{goes, does, unit_fine, unit_more}
use Rattle.readers.proofs.load.load_units.Goals as goal

pub unwrap-requires : goal.unwrap-requires
unwrap-requires g c =
    let m = model_of c.loop-unit.plan in
    let us = c.args.units.now in
    let k = c.loop-unit.unit-index in
    let text = c.text.result.now in
    let is = c.text.ensures.value ∙ ap code_of c.unit-item.is in
    let fine = unit_fine m us k c.unit-item.result text c.loop-unit.invariant c.loop-unit-test.true is c.requires.few c.requires.apart c.text.ensures.code in
    goes (enter_verdict m text) (length m.codes) (entered text m) c.loop-unit.plan c.enter.new.self c.enter.result fine c.enter.ensures.called

pub loop-unit-preserved : goal.loop-unit-preserved
loop-unit-preserved g c =
    let m = model_of c.loop-unit.plan in
    let us = c.args.units.now in
    let k = c.loop-unit.unit-index in
    let text = c.text.result.now in
    let u = c.unit-item.result in
    let is = c.text.ensures.value ∙ ap code_of c.unit-item.is in
    let fine = unit_fine m us k u text c.loop-unit.invariant c.loop-unit-test.true is c.requires.few c.requires.apart c.text.ensures.code in
    does (enter_verdict m text) (length m.codes) (entered text m) c.loop-unit.plan c.enter.new.self c.enter.result fine c.enter.ensures.called
    ∙ unit_more m us k u text c.loop-unit.invariant c.loop-unit-test.true is
