use Rattle.std.proofs.Common.{ℕ, ◌+◌, ◌∷◌, drop, sym, ap, ◌∙◌, subst}
use Rattle.std.proofs.lemmas.List.{drop_more}
use Rattle.cuts.specs.Divisions.{differ}
use Rattle.plans.specs.Divided.{side_of}
use Rattle.plans.proofs.Cutting.{Adding, adding_none, adding_skip, adding_more, adding_all, fits_more, taken, passed_over}
use Rattle.plans.proofs.plan.weighs.cut_weight.Goals as goal
use Rattle.plans.proofs.plan.weighs.cut_weight.Goals.{then-is_cut, else-is_cut}

pub loop-link-init : goal.loop-link-init
loop-link-init g c = adding_none g.W.Weight (λ x y. differ (side_of c.args.marks.now x) (side_of c.args.marks.now y)) g.met.W.Weight.laws c.args.links.now _ c.nothing-sum.ensures c.requires.total

pub add-sum-requires : goal.add-sum-requires
add-sum-requires g c =
    let T = λ (x y : ℕ). differ (side_of c.args.marks.now x) (side_of c.args.marks.now y) in
    let all = c.args.links.now in
    let i = c.loop-link.link-index in
    let l = c.link-item.result in
    let here = drop_more all i l c.loop-link-test.true ∙ ap (λ x. x ∷ drop (i + 1) all) (sym c.link-item.is) in
    fits_more g.W.Weight T g.met.W.Weight.laws all i l _ here c.loop-link.invariant

pub loop-link-preserved : goal.loop-link-preserved
loop-link-preserved g c =
    let T = λ (x y : ℕ). differ (side_of c.args.marks.now x) (side_of c.args.marks.now y) in
    let all = c.args.links.now in
    let i = c.loop-link.link-index in
    let l = c.link-item.result in
    let here = drop_more all i l c.loop-link-test.true ∙ ap (λ x. x ∷ drop (i + 1) all) (sym c.link-item.is) in
    let before = c.loop-link.invariant in
    elim c.if-is_cut.branch [
      | then-is_cut w ↦ adding_more g.W.Weight T g.met.W.Weight.laws all i l _ here before _ (ap g.W.Weight.value w.sum-is ∙ w.add-sum.ensures) (taken g.W.Weight T l (drop (i + 1) all) (sym c.is_cut.ensures ∙ w.if-is_cut.true))
      | else-is_cut w ↦ subst (λ x. Adding g.W.Weight T g.met.W.Weight.laws all (i + 1) (g.W.Weight.value x)) (sym w.sum-is) (adding_skip g.W.Weight T g.met.W.Weight.laws all i l _ here before (passed_over g.W.Weight T l (drop (i + 1) all) (sym c.is_cut.ensures ∙ w.if-is_cut.false)))
    ]

pub returns : goal.returns
returns g c = adding_all g.W.Weight (λ x y. differ (side_of c.args.marks.now x) (side_of c.args.marks.now y)) g.met.W.Weight.laws c.args.links.now c.loop-link.link-index _ c.loop-link-test.false c.loop-link.invariant
