-- What is promised of an answer follows from the record theorem.
use Rattle.std.proofs.Common.{◌≡◌, ℕ, ◌+◌, ◌<◌, ◌≤◌, Bool, true, false, cond, eqb, List, [], length, take, sym, refl, ap, ◌∙◌, subst, arith}
use Rattle.cuts.specs.Kinds.{Kind, Lawful, above}
use Rattle.cuts.specs.Links.{Link, Sound}
use Rattle.cuts.specs.Divisions.{Division, turned, weight_of, Weakest}
use Rattle.cuts.specs.Groups.{Joins}
use Rattle.cuts.specs.Claims.{LeastAt}
use Rattle.cuts.specs.Outcomes.{marking, OutcomePromised}
use Rattle.cuts.proofs.Ends.{weight_below}
use Rattle.cuts.proofs.Alike.{turned_weakest}
use Rattle.cuts.proofs.Works.{record_least}

pub division_below : (n : ℕ) (S T : ℕ → Bool) → ((x : ℕ) → x < n → S x ≡ T x) → Division n S → Division n T
division_below n S T h d = record {
  some = (d.some.0, d.some.1, sym (h d.some.0 d.some.1) ∙ d.some.2);
  not_all = (d.not_all.0, d.not_all.1, sym (h d.not_all.0 d.not_all.1) ∙ d.not_all.2);
}

-- marks that agree on the units of the plan are weakest together
pub weakest_below : {V : Type 0} (K : Kind V) (laws : Lawful K) (n : ℕ) (ls : List (Link V)) (sound : Sound K n ls) (S T : ℕ → Bool) → ((x : ℕ) → x < n → S x ≡ T x) → Weakest K n ls S → Weakest K n ls T
weakest_below K laws n ls sound S T h w = record {
  division = division_below n S T h w.division;
  least = λ D d. rw (weight_below K laws n ls sound S T h) at (w.least D d);
}

one_mark : (b : Bool) → eqb (cond b 1 0) 1 ≡ b
one_mark true = refl
one_mark false = refl

pub outcome_promised : {V : Type 0} (K : Kind V) → Lawful K → OutcomePromised K
outcome_promised K laws n ls sound two figure marks entries scans outcome =
    let p = outcome.end in
    let answers = record_least K laws n ls sound two p outcome.allowed outcome.ends in
    let (zero, same, weakest) = turned_weakest K n ls p.best answers.weakest in
    let agree : (x : ℕ) → x < n → turned p.best x ≡ marking marks x = λ x l. sym (ap (λ b. eqb b 1) (outcome.marks_are x l) ∙ one_mark (turned p.best x)) in
    record {
      weighs = sym (weight_below K laws n ls sound (turned p.best) (marking marks) agree) ∙ same ∙ outcome.figure_is;
      weakest = weakest_below K laws n ls sound (turned p.best) (marking marks) agree weakest;
      unit_0 = sym (agree 0 (omega arith)) ∙ zero;
      few = subst (λ es. length es + 2 ≤ n) outcome.entries_are answers.few;
      all = λ h. subst (λ es. length es + 2 ≡ n) outcome.entries_are (answers.all (subst (λ f. above K f ≡ true) (sym outcome.figure_is) h));
      joins = subst (Joins n []) outcome.entries_are answers.joins;
      points = λ k h. subst (LeastAt K n ls (take k entries)) outcome.figure_is
          (subst (λ es. LeastAt K n ls (take k es) (weight_of K ls p.best)) outcome.entries_are (answers.points k (subst (λ es. k ≤ length es) (sym outcome.entries_are) h)));
    }
