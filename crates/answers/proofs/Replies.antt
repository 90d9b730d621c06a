-- The verdicts on weakest and trial, and why an answer is least.
use Rattle.std.proofs.Common.{◌≡◌, ℕ, ◌-◌, ◌<◌, ◌≤◌, true, false, eqb, List, length, get_or, take, Some, sym, ap, ◌∙◌, subst, arith}
use Rattle.std.proofs.lemmas.List.{get_or-take}
use Rattle.std.proofs.lemmas.Bool.{lt-ltb, le-ltb, le-leb, lt-leb}
use Rattle.refusals.specs.declared.Refusal.TheVariants.{NoDivision, NoSuchLink, ShortMemory}
use Rattle.weights.specs.declared.weight.Weight.{Ghosts}
use Rattle.cuts.specs.declared.entry.Entry.{Entry}
use Rattle.cuts.specs.Divisions.{weight_of}
use Rattle.cuts.specs.Kinds.{kind_of, Lawful}
use Rattle.cuts.specs.Outcomes.{Promised}
use Rattle.cuts.proofs.Ends.{weight_below}
use Rattle.plans.specs.Calls.{accepted}
use Rattle.plans.specs.Divided.{links_of, side_of, weighed}
use Rattle.plans.specs.Model.{Model}
use Rattle.plans.proofs.Verdicts.{fails, passes}
use Rattle.filings.specs.Filed.{Marks}
use Rattle.filings.proofs.Keeping.{marks_below}
use Rattle.filings.proofs.Staying.{Fairly}
use Rattle.answers.specs.Answered.{enough, Least, trial_verdict, weakest_verdict}

module _ {W : Type 0} (m : Model W) (n : ℕ) (units : n ≡ length m.codes) (marks entries weights : ℕ) where
  pub too_few : n < 2 → weakest_verdict m marks entries weights ≡ Some NoDivision
  too_few h = fails NoDivision _ (lt-leb 2 (length m.codes) (omega arith))

  pub too_short : 2 ≤ n → enough n marks entries weights ≡ false → weakest_verdict m marks entries weights ≡ Some ShortMemory
  too_short h e = passes NoDivision _ (le-leb 2 (length m.codes) (omega arith)) ∙ fails ShortMemory _ (subst (λ k. enough k marks entries weights ≡ false) units e)

  pub weakest_accepted : 2 ≤ n → enough n marks entries weights ≡ true → weakest_verdict m marks entries weights ≡ accepted
  weakest_accepted h e = passes NoDivision _ (le-leb 2 (length m.codes) (omega arith)) ∙ passes ShortMemory _ (subst (λ k. enough k marks entries weights ≡ true) units e)

  module _ (k : ℕ) where
    pub no_link : length m.links ≤ k → trial_verdict m k marks entries weights ≡ Some NoSuchLink
    no_link h = fails NoSuchLink _ (le-ltb k (length m.links) h)

    pub trial_short : k < length m.links → enough n marks entries weights ≡ false → trial_verdict m k marks entries weights ≡ Some ShortMemory
    trial_short h e = passes NoSuchLink _ (lt-ltb k (length m.links) h) ∙ fails ShortMemory _ (subst (λ i. enough i marks entries weights ≡ false) units e)

    pub trial_accepted : k < length m.links → enough n marks entries weights ≡ true → trial_verdict m k marks entries weights ≡ accepted
    trial_accepted h e = passes NoSuchLink _ (lt-ltb k (length m.links) h) ∙ passes ShortMemory _ (subst (λ i. enough i marks entries weights ≡ true) units e)

module _ {W : Type 0} (g : Ghosts W) (m : Model W) (figure : g.Value) (marks : List ℕ) where
  -- an answer that was worked out
  pub promised_least : (entries : List Entry) → Promised (kind_of g) (length m.codes) (links_of g m) figure marks entries → Least g m figure marks
  promised_least entries p = record { weakest = p.weakest; weighs = p.weighs; unit_0 = p.unit_0 }

  -- kept marks, written out
  pub kept_least : Lawful (kind_of g) → Fairly g m → (sides : List ℕ) → Marks g m sides → take (length m.codes) marks ≡ take (length m.codes) sides → figure ≡ weight_of (kind_of g) (links_of g m) (side_of sides) → Least g m figure marks
  kept_least laws fair sides kept front is =
      let here = marks_below g laws m fair sides marks (sym front) kept in
      let n = length m.codes in
      let same : (u : ℕ) → u < n → side_of sides u ≡ side_of marks u = λ u h. ap (λ b. eqb b 1) (sym (get_or-take n sides u 0 h) ∙ ap (λ zs. get_or zs u 0) (sym front) ∙ get_or-take n marks u 0 h) in
      record {
        weakest = here.weakest;
        weighs = sym (weight_below (kind_of g) laws n (links_of g m) fair (side_of sides) (side_of marks) same) ∙ sym is;
        unit_0 = ap (λ b. eqb b 1) here.first;
      }

-- the weight of a part of marks that begin as the sides do
pub part_weighed : {W : Type 0} (g : Ghosts W) → Lawful (kind_of g) → (m : Model W) → Fairly g m → (n : ℕ) → n ≡ length m.codes → (marks sides : List ℕ) → take n marks ≡ take n sides → weighed g m (take (n - 0) marks) ≡ weight_of (kind_of g) (links_of g m) (side_of sides)
part_weighed g laws m fair n units marks sides front =
    weight_below (kind_of g) laws (length m.codes) (links_of g m) fair (side_of (take (n - 0) marks)) (side_of sides)
    (λ u h. ap (λ b. eqb b 1) (get_or-take (n - 0) marks u 0 (omega arith) ∙ sym (get_or-take n marks u 0 (omega arith)) ∙ ap (λ zs. get_or zs u 0) front ∙ get_or-take n sides u 0 (omega arith)))
