-- Marks that are kept are those of a weakest division where those that were given are.
use Rattle.std.proofs.Common.{◌≡◌, ℕ, ◌<◌, eqb, List, length, get_or, take, sym, ap, ◌∙◌, subst, arith}
use Rattle.std.proofs.lemmas.List.{get_or-take}
use Rattle.weights.specs.declared.weight.Weight.{Ghosts}
use Rattle.weights.specs.Laws.{Laws}
use Rattle.cuts.specs.Kinds.{kind_of}
use Rattle.cuts.proofs.Outcomes.{weakest_below}
use Rattle.plans.specs.declared.plan.Plan.{Plan}
use Rattle.plans.specs.Marks.{Untouched}
use Rattle.plans.specs.Model.{Model, model_of}
use Rattle.plans.specs.Divided.{links_of, side_of}
use Rattle.filings.specs.Filed.{Marks}
use Rattle.filings.proofs.Staying.{Fairly}

-- only the marks of the plan's units count
module _ {W : Type 0} (g : Ghosts W) (laws : Laws g.zero g.plus g.le g.size) (m : Model W) (fair : Fairly g m) (xs ys : List ℕ) where
  pub marks_alike : ((u : ℕ) → u < length m.codes → get_or xs u 0 ≡ get_or ys u 0) → Marks g m xs → Marks g m ys
  marks_alike same marks = record {
    units = marks.units;
    bytes = λ u h. subst (λ b. b < 2) (same u h) (marks.bytes u h);
    first = sym (same 0 (let two = marks.units in omega arith)) ∙ marks.first;
    weakest = weakest_below (kind_of g) laws (length m.codes) (links_of g m) fair (side_of xs) (side_of ys) (λ u h. ap (λ b. eqb b 1) (same u h)) marks.weakest;
  }

  pub marks_below : take (length m.codes) xs ≡ take (length m.codes) ys → Marks g m xs → Marks g m ys
  marks_below e = marks_alike (λ u h. sym (get_or-take (length m.codes) xs u 0 h) ∙ (ap (λ zs. get_or zs u 0) e ∙ get_or-take (length m.codes) ys u 0 h))

-- a plan that is untouched stands for the same model
pub untouched_model : {W : Type 0} {g : Ghosts W} (p q : Plan W g) → Untouched p q → model_of q ≡ model_of p
untouched_model p q u = cc
