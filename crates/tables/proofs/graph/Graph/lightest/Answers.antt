use Rattle.std.proofs.Common.{arith, ℕ, ◌+◌, ◌<◌, List, [], sym, ◌∙◌, subst}
use Rattle.std.proofs.lemmas.Bool.{not-true, not-false}
use Rattle.cuts.specs.Kinds.{kind_of}
use Rattle.cuts.specs.Links.{Link}
use Rattle.cuts.specs.Records.{Lightest}
use Rattle.tables.specs.Meaning.{Holds}
use Rattle.tables.proofs.Units.{unit_fits, units_compared, lightest_one, lightest_next, lightest_same}
use Rattle.tables.proofs.graph.Graph.lightest.Goals as goal
use Rattle.tables.proofs.graph.Graph.lightest.Goals.{then-is_lighter, else-is_lighter}

pub loop-u-init : goal.loop-u-init
loop-u-init g c =
    let met = g.met.W.Weight in
    (c.requires, λ ls h. lightest_one (kind_of g.W.Weight) met.laws c.args.self.now.groups.now.units ls (unit_fits g.W.Weight c.args.self.now.groups.now.units ls c.args.self.now.weights.now h met.laws met.bounded) c.requires)

pub loop-u-preserved : goal.loop-u-preserved
loop-u-preserved g c =
    let met = g.met.W.Weight in
    let K = kind_of g.W.Weight in
    let n = c.args.self.now.groups.now.units in
    let table = c.args.self.now.weights.now in
    let low : c.loop-u.u < n = omega (arith, c.units-units.ensures, c.loop-u-test.true) in
    let fits = λ (ls : List (Link g.W.Weight.Value)) (h : Holds g.W.Weight n ls [] table). unit_fits g.W.Weight n ls table h met.laws met.bounded in
    let compared = λ (ls : List (Link g.W.Weight.Value)) (h : Holds g.W.Weight n ls [] table). units_compared g.W.Weight n ls table h c.loop-u.unit c.loop-u.u c.loop-u.invariant.0 low in
    let P : ℕ → Type 0 = λ u. (u < n) × ((ls : List (Link g.W.Weight.Value)) → Holds g.W.Weight n ls [] table → Lightest K (c.loop-u.u + 1) ls u) in
    elim c.if-is_lighter.branch [
      | then-is_lighter w ↦ subst P (sym w.unit-is) (low, λ ls h. lightest_next K met.laws n ls (fits ls h) c.loop-u.u c.loop-u.unit low (c.loop-u.invariant.1 ls h) (compared ls h ∙ not-true _ (sym c.is_lighter.ensures ∙ w.if-is_lighter.true)))
      | else-is_lighter w ↦ subst P (sym w.unit-is) (c.loop-u.invariant.0, λ ls h. lightest_same K met.laws n ls (fits ls h) c.loop-u.u c.loop-u.unit low (c.loop-u.invariant.1 ls h) (compared ls h ∙ not-false _ (sym c.is_lighter.ensures ∙ w.if-is_lighter.false)))
    ]
