-- An answer that follows the rules is right, and its marks may be kept.
use Rattle.std.proofs.Common.{◌≡◌, ℕ, ◌<◌, ◌≤◌, Bool, true, eqb, List, [], length, get_or, take, sym, refl, ap, ◌∙◌, subst, inr, arith}
use Rattle.std.proofs.lemmas.List.{get_or-take}
use Rattle.std.proofs.lemmas.Bool.{both_ways}
use Rattle.weights.specs.declared.weight.Weight.{Ghosts}
use Rattle.weights.specs.Laws.{Laws}
use Rattle.cuts.specs.Kinds.{kind_of, AtMost}
use Rattle.cuts.specs.Links.{Link as Joint, Sound as Fair}
use Rattle.cuts.specs.Divisions.{weight_of, Weakest, Figure}
use Rattle.cuts.specs.Groups.{Joins, stands, group}
use Rattle.cuts.specs.Claims.{LeastAt}
use Rattle.cuts.proofs.Alike.{alike_same}
use Rattle.cuts.proofs.Ends.{weight_below}
use Rattle.cuts.proofs.Names.{named_none, group_division}
use Rattle.cuts.proofs.Outcomes.{outcome_promised}
use Rattle.plans.specs.Model.{Model}
use Rattle.plans.specs.Divided.{links_of, side_of}
use Rattle.runs.specs.Steps.{State, Answer, Worked, Remembered}
use Rattle.runs.specs.Promise.{RightAnswer, AlikePlans}
use Rattle.filings.specs.Filed.{Marks}
use Rattle.filings.proofs.Keeping.{marks_alike}
use Rattle.answers.proofs.Outcomes.{outcome_marks}
use Rattle.filings.proofs.Staying.{Fairly}

module _ {W : Type 0} (g : Ghosts W) (laws : Laws g.zero g.plus g.le g.size) where
  -- at the start every unit is a group, and every division keeps the groups whole
  start_least : (n : ℕ) (ls : List (Joint g.Value)) (S : ℕ → Bool) → 2 ≤ n → Weakest (kind_of g) n ls S → LeastAt (kind_of g) n ls [] (weight_of (kind_of g) ls S)
  start_least n ls S two w = record {
    groups = λ k h low there. first k h low there;
    divisions = λ D d whole. w.least D d;
    reached = inr (S, w.division, (λ x y p q e. ap S e), refl);
  }
    where
      first : (k h : ℕ) → k ≤ 0 → stands n (take k []) h ≡ true → AtMost (kind_of g) (weight_of (kind_of g) ls S) (weight_of (kind_of g) ls (group (take k []) h))
      first k h low there =
          let z : k ≡ 0 = omega arith in
          subst (λ j. stands n (take j []) h ≡ true → AtMost (kind_of g) (weight_of (kind_of g) ls S) (weight_of (kind_of g) ls (group (take j []) h))) (sym z) (λ t. w.least (group [] h) (group_division n [] (named_none n) (omega arith) h t)) there

  module _ (m : Model W) (fair : Fairly g m) where
    abbrev units : ℕ
    units = length m.codes

    module _ (two : 2 ≤ length m.codes) (a : Answer W) (w : Worked g m a) where
      pub worked_marks : Marks g m a.marks
      worked_marks = outcome_marks g laws m fair two (g.value a.figure) a.marks a.entries a.scans w.allowed

      pub worked_right : RightAnswer g m a
      worked_right =
          let p = outcome_promised (kind_of g) laws units (links_of g m) fair two (g.value a.figure) a.marks a.entries a.scans w.allowed in
          record {
            size = w.size;
            bytes = worked_marks.bytes;
            unit_0 = p.unit_0;
            least = λ D d. subst (λ v. AtMost (kind_of g) v (weight_of (kind_of g) (links_of g m) D)) p.weighs (p.weakest.least D d);
            division = p.weakest.division;
            weighs = p.weighs;
            few = p.few;
            all = λ new some. p.all some;
            joins = p.joins;
            points = p.points;
          }

  -- kept marks of a weakest division
  pub remembered_right : (s t : State W) → Fairly g s.plan → Marks g s.plan s.sides → (a : Answer W) → Remembered g s a t → RightAnswer g s.plan a
  remembered_right s t fair k a r =
      let m = s.plan in
      let n = length m.codes in
      let K = kind_of g in
      let ls = links_of g m in
      let two = k.units in
      let same : (u : ℕ) → u < n → get_or s.sides u 0 ≡ get_or a.marks u 0 = λ u h. sym (ap (λ xs. get_or xs u 0) r.marks ∙ get_or-take n s.sides u 0 h) in
      let ms = marks_alike g laws m fair s.sides a.marks same k in
      let weighs : weight_of K ls (side_of a.marks) ≡ g.value a.figure = sym (weight_below K laws n ls fair (side_of s.sides) (side_of a.marks) (λ u h. ap (λ b. eqb b 1) (same u h))) ∙ sym r.figure in
      let start : LeastAt K n ls [] (g.value a.figure) = subst (LeastAt K n ls []) weighs (start_least n ls (side_of a.marks) two ms.weakest) in
      let none = ap length r.entries in
      record {
        size = r.size;
        bytes = ms.bytes;
        unit_0 = ap (λ b. eqb b 1) ms.first;
        least = λ D d. subst (λ v. AtMost K v (weight_of K ls D)) weighs (ms.weakest.least D d);
        division = ms.weakest.division;
        weighs = weighs;
        few = omega arith;
        all = λ new some. absurd (both_ways a.kept new r.old);
        joins = subst (Joins n []) (sym r.entries) tt;
        points = λ j h. subst (λ es. j ≤ length es → LeastAt K n ls (take j es) (g.value a.figure)) (sym r.entries) (λ low. at_start K n ls j (g.value a.figure) low start) h;
      }
    where
      at_start : (K : _) (n : ℕ) (ls : List (Joint g.Value)) (j : ℕ) (v : g.Value) → j ≤ 0 → LeastAt K n ls [] v → LeastAt K n ls (take j []) v
      at_start K n ls j v low l = let z : j ≡ 0 = omega arith in subst (λ i. LeastAt K n ls (take i []) v) (sym z) l

  -- right answers on alike plans
  pub same_figure : ((x y : W) → g.value x ≡ g.value y → x ≡ y) → (m o : Model W) → Fairly g m → Fairly g o → (a b : Answer W) → RightAnswer g m a → RightAnswer g o b → AlikePlans g m o → a.figure ≡ b.figure
  same_figure told m o fair other a b p q alike =
      let K = kind_of g in
      let n = length m.codes in
      let e = alike.units in
      let figure : (x : Model W) (c : Answer W) → RightAnswer g x c → Figure K (length x.codes) (links_of g x) (g.value c.figure) = λ x c r. (
        side_of c.marks,
        record { division = r.division; least = λ D d. subst (λ v. AtMost K v (weight_of K (links_of g x) D)) (sym r.weighs) (r.least D d) },
        sym r.weighs,
      ) in
      told a.figure b.figure ((alike_same K laws n (links_of g m) (links_of g o) fair (subst (λ k. Fair K k (links_of g o)) (sym e) other) alike.joint).1 (g.value a.figure) (g.value b.figure) (figure m a p) (subst (λ k. Figure K k (links_of g o) (g.value b.figure)) (sym e) (figure o b q)))
