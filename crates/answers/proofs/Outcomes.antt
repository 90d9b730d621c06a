-- The marks of an answer that was worked out are those of a weakest division, as a filing keeps them.
use Rattle.std.proofs.Common.{◌≡◌, ℕ, ◌<◌, ◌≤◌, Bool, true, false, cond, eqb, List, length, get_or, sym, subst, arith}
use Rattle.std.proofs.lemmas.Bool.Decides.{nat_tests}
use Rattle.weights.specs.declared.weight.Weight.{Ghosts}
use Rattle.weights.specs.Laws.{Laws}
use Rattle.cuts.specs.declared.entry.Entry.{Entry}
use Rattle.cuts.specs.Kinds.{kind_of}
use Rattle.cuts.specs.Divisions.{turned}
use Rattle.cuts.specs.Outcomes.{Outcome}
use Rattle.cuts.proofs.Outcomes.{outcome_promised}
use Rattle.plans.specs.Model.{Model}
use Rattle.plans.specs.Divided.{links_of}
use Rattle.filings.specs.Filed.{Marks}
use Rattle.filings.proofs.Staying.{Fairly}

pub outcome_marks : {W : Type 0} (g : Ghosts W) → Laws g.zero g.plus g.le g.size → (m : Model W) → Fairly g m → 2 ≤ length m.codes → (figure : g.Value) (marks : List ℕ) (entries : List Entry) (scans : ℕ) → Outcome (kind_of g) (length m.codes) (links_of g m) figure marks entries scans → Marks g m marks
outcome_marks g laws m fair two figure marks entries scans o =
    let p = outcome_promised (kind_of g) laws (length m.codes) (links_of g m) fair two figure marks entries scans o in
    record {
      units = two;
      bytes = λ u h. subst (λ b. b < 2) (sym (o.marks_are u h)) (mark_low (turned o.end.best u));
      first = mark_zero (get_or marks 0 0) (subst (λ b. b < 2) (sym (o.marks_are 0 (omega arith))) (mark_low (turned o.end.best 0))) p.unit_0;
      weakest = p.weakest;
    }
  where
    mark_low : (b : Bool) → cond b 1 0 < 2
    mark_low true = omega arith
    mark_low false = omega arith

    mark_zero : (b : ℕ) → b < 2 → eqb b 1 ≡ false → b ≡ 0
    mark_zero b low e = grind (arith, nat_tests)
