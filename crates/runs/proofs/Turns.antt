-- A run keeps its promise: one induction over its turns, which carries that the plan is within its limits and that kept marks
-- are those of a weakest division.
use Rattle.std.proofs.Common.{◌≡◌, ℕ, ◌^◌, ◌<◌, ◌≤◌, Bool, true, false, eqb, List, [], ◌∷◌, length, get_or, Some, None, vec_items, Option, sym, refl, ap, ◌∙◌, subst, inl, inr, ⊎_elim, arith}
use Rattle.std.specs.List.{AllByRecursion}
use Rattle.std.proofs.ByRecursion.{all-has, All-weaker}
use Rattle.std.proofs.lemmas.List.{get_or-take}
use Rattle.std.proofs.lemmas.Bool.{and_parts, false≢true}
use Rattle.std.proofs.lemmas.Bool.Decides.{nat_tests}
use Rattle.refusals.specs.declared.Refusal.{Refusal}
use Rattle.weights.specs.declared.weight.Weight.{Ghosts}
use Rattle.weights.specs.Laws.{Laws, Exact, limit}
use Rattle.plans.specs.Divided.{weigh_verdict, weighed}
use Rattle.plans.specs.Model.{Model, marked}
use Rattle.writers.specs.Written.{sheet_in, write_verdict}
use Rattle.answers.specs.Answered.{weakest_verdict, trial_verdict}
use Rattle.runs.specs.Steps.{State, Opened, opened, Answer, answer_of, bytes_of, Judged, Weighs, Edits, Takes, Faults, Worked, Finds, Tries, Answers, Step, Turn, Follows}
use Rattle.runs.specs.Replies.{Led, Allowed, Answered, Replies, asked}
use Rattle.runs.specs.Promise.{RightAnswer, Says, SameFigures, Promise}
use Rattle.runs.specs.declared.call.Call.{Call}
use Rattle.runs.specs.declared.call.Call.TheVariants as call
use Rattle.runs.specs.declared.reply.Reply.{Reply}
use Rattle.runs.specs.declared.reply.Reply.TheVariants as reply
use Rattle.filings.specs.Filed.{Marks}
use Rattle.filings.proofs.Keeping.{marks_alike}
use Rattle.filings.proofs.Staying.{Fairly, recoded_stays, linked_stays, struck_stays, marked_stays, reweighed_stays}
use Rattle.runs.proofs.Limits.{Within, fair_within, opened_within, entered_within, recoded_within, linked_within, struck_within, marked_within, reweighed_within, two_units, strike_there, mark_there, reweigh_there}
use Rattle.runs.proofs.Leading.{led, led_one}
use Rattle.runs.proofs.Answering.{worked_marks, worked_right, remembered_right, same_figure}

-- replies that are no answers

module _ {W : Type 0} where
  not_both : (r : Reply W) (bs : List ℕ) (a : Answer W) → bytes_of r ≡ Some bs → answer_of r ≡ Some a → ⊥
  not_both (reply.Entered k) bs a b s = cc
  not_both (reply.Linked k) bs a b s = cc
  not_both reply.Done bs a b s = cc
  not_both (reply.Weighed w) bs a b s = cc
  not_both (reply.Written v) bs a b s = cc
  not_both (reply.Answered w v es n k) bs a b s = cc
  not_both (reply.Refused e) bs a b s = cc
  not_both (reply.Faulty e) bs a b s = cc

  two_of_weakest : (m : Model W) (i j k : ℕ) → weakest_verdict m i j k ≡ None → 2 ≤ length m.codes
  two_of_weakest m i j k e = grind (arith, nat_tests)

  link_of_trial : (m : Model W) (l i j k : ℕ) → trial_verdict m l i j k ≡ None → l < length m.links
  link_of_trial m l i j k e = grind (arith, nat_tests)

module _ {W : Type 0} (g : Ghosts W) where
  no_edit : (v : Option Refusal) (q : Reply W) (next : Model W) (stay : Bool) (s t : State W) (r : Reply W) (a : Answer W) → Edits g v q next stay s r t → answer_of q ≡ None → answer_of r ≡ Some a → ⊥
  no_edit None q next stay s t r a e n is = let told = ap answer_of e.replied in cc
  no_edit (Some x) q next stay s t r a e n is = let told = ap answer_of e.replied in cc

  no_question : (v : Option Refusal) (P : Reply W → Type 0) (r : Reply W) (a : Answer W) → Judged v P r → (P r → answer_of r ≡ Some a → ⊥) → answer_of r ≡ Some a → ⊥
  no_question None P r a j n is = n j is
  no_question (Some x) P r a j n is = let told = ap answer_of j in cc

  answer_here : (v : Option Refusal) (P : Answer W → State W → Type 0) (s t : State W) (r : Reply W) → Answers g v P s r t → (a : Answer W) → answer_of r ≡ Some a → (v ≡ None) × P a t
  answer_here None P s t r h a e = (refl, subst (λ b. P b t) (cc (sym h.1 ∙ e)) h.2)
  answer_here (Some x) P s t r h a e = let told = ap answer_of h.0 in cc

  judged : (v : Option Refusal) (P : Answer W → State W → Type 0) (Q : Answer W → Type 0) (s t : State W) (r : Reply W) → ((a : Answer W) → P a t → Q a) → Answers g v P s r t → Judged v (Answered g Q) r
  judged None P Q s t r f h = (h.0, h.1, f h.0 h.2)
  judged (Some x) P Q s t r f h = h.0

  finds_allowed : (b : Bool) (s t : State W) (a : Answer W) → Finds g b s a t → Allowed g s.plan a
  finds_allowed true s t a f = inr (f.old, f.entries, f.scans)
  finds_allowed false s t a f = inl f.worked

  -- each call is replied to as the rules say for the plan
  step_replies : (c : Call W) (r : Reply W) (s t : State W) → Step g s c r t → Replies g s.plan c r
  step_replies (call.Enter v) r s t h = h.replied
  step_replies (call.Recode k v) r s t h = h.replied
  step_replies (call.Link a b w) r s t h = h.replied
  step_replies (call.Strike k) r s t h = h.replied
  step_replies (call.Reweigh k w) r s t h = h.replied
  step_replies (call.Mark k b) r s t h = h.replied
  step_replies (call.Weigh v) r s t h = h.replied
  step_replies (call.Read v) r s t h = ⊎_elim (λ (x : Takes g (vec_items v) r t). inl (x.right, x.replied)) (λ (x : Faults g (vec_items v) s r t). inr (x.fault, x.first, x.replied)) h
  step_replies (call.Write issue room) r s t h = h.replied
  step_replies (call.Weakest l) r s t h = judged (weakest_verdict s.plan l.marks l.entries l.weights) (Finds g s.kept s) (Allowed g s.plan) s t r (finds_allowed s.kept s t) h
  step_replies (call.Trial k l) r s t h = judged (trial_verdict s.plan k l.marks l.entries l.weights) (Tries g k s) (Worked g (marked k false s.plan)) s t r (λ a p. p.0) h

  module _ (laws : Laws g.zero g.plus g.le g.size) (bounded : (x : W) → g.size (g.value x) ≤ limit) where
    -- what every state of a run keeps
    record Holds (s : State W) : Type 0 where
      within : Within g s.plan
      current : s.kept ≡ true → Marks g s.plan s.sides

    start_holds : (s : State W) → Opened s → Holds s
    start_holds s o = record { within = subst (Within g) (sym o.0) (opened_within g); current = λ k. absurd (false≢true (sym o.1 ∙ k)) }

    edit_holds : (v : Option Refusal) (q : Reply W) (next : Model W) (stay : Bool) (s t : State W) (r : Reply W) → Holds s → (v ≡ None → Within g next) → (v ≡ None → Marks g s.plan s.sides → stay ≡ true → Marks g next s.sides) → Edits g v q next stay s r t → Holds t
    edit_holds None q next stay s t r h w k e =
        subst Holds (sym e.left) (record { within = w refl; current = λ both. let p = and_parts s.kept stay both in k refl (h.current p.0) p.1 })
    edit_holds (Some x) q next stay s t r h w k e = subst Holds (sym e.left) h

    answer_holds : (v : Option Refusal) (P : Answer W → State W → Type 0) (s t : State W) (r : Reply W) → Holds s → (v ≡ None → (a : Answer W) → P a t → Holds t) → Answers g v P s r t → Holds t
    answer_holds None P s t r h f x = f refl x.0 x.2
    answer_holds (Some e) P s t r h f x = subst Holds (sym x.1) h

    finds_holds : (b : Bool) (s t : State W) (a : Answer W) → Holds s → 2 ≤ length s.plan.codes → Finds g b s a t → Holds t
    finds_holds true s t a h two f = subst Holds (sym f.left) h
    finds_holds false s t a h two f =
        let m = s.plan in
        let fair = fair_within g m h.within in
        let same : (u : ℕ) → u < length m.codes → get_or a.marks u 0 ≡ get_or t.sides u 0 = λ u low. sym (ap (λ xs. get_or xs u 0) f.sides) ∙ get_or-take (length m.codes) t.sides u 0 low in
        let marks : Marks g m t.sides = marks_alike g laws m fair a.marks t.sides same (worked_marks g laws m fair two a f.worked) in
        record { within = subst (Within g) (sym f.plan) h.within; current = λ k. subst (λ o. Marks g o t.sides) (sym f.plan) marks }

    step_holds : (c : Call W) (r : Reply W) (s t : State W) → Holds s → Step g s c r t → Holds t
    step_holds (call.Enter v) r s t h e = edit_holds _ _ _ _ s t r h (λ ok. entered_within g s.plan h.within (vec_items v)) (λ ok k stay. absurd (false≢true stay)) e
    step_holds (call.Recode k v) r s t h e = edit_holds _ _ _ _ s t r h (λ ok. recoded_within g s.plan h.within k (vec_items v)) (λ ok marks stay. recoded_stays g laws bounded s.plan s.sides (fair_within g s.plan h.within) marks k (vec_items v)) e
    step_holds (call.Link a b w) r s t h e =
        let m = s.plan in
        edit_holds _ _ _ _ s t r h (λ ok. linked_within g m h.within a b w ok)
        (λ ok marks stay. linked_stays g laws bounded m s.sides (fair_within g m h.within) marks (record { first = a; second = b; in_service = true; weight = w }) (fair_within g _ (linked_within g m h.within a b w ok)) stay) e
    step_holds (call.Strike k) r s t h e =
        let m = s.plan in
        edit_holds _ _ _ _ s t r h (λ ok. struck_within g m h.within k (strike_there g m k ok))
        (λ ok marks stay.
        let there = strike_there g m k ok in
        struck_stays g laws bounded m s.sides (fair_within g m h.within) marks k there (fair_within g _ (struck_within g m h.within k there)) stay) e
    step_holds (call.Reweigh k w) r s t h e =
        let m = s.plan in
        let new : (x : _) → Within g _ = λ x. let p = reweigh_there g m k w x in reweighed_within g m h.within k p.0 w p.1 p.2 in
        edit_holds _ _ _ _ s t r h new (λ ok marks stay. reweighed_stays g laws bounded m s.sides (fair_within g m h.within) marks k (reweigh_there g m k w ok).0 w (fair_within g _ (new ok)) stay) e
    step_holds (call.Mark k b) r s t h e =
        let m = s.plan in
        let new : (x : _) → Within g _ = λ x. marked_within g m h.within k (mark_there g m k b x).0 (eqb b 1) in
        edit_holds _ _ _ _ s t r h new (λ ok marks stay. marked_stays g laws bounded m s.sides (fair_within g m h.within) marks k (mark_there g m k b ok).0 b (mark_there g m k b ok).1 (fair_within g _ (new ok)) stay) e
    step_holds (call.Weigh v) r s t h e = subst Holds (sym e.left) h
    step_holds (call.Read v) r s t h e =
        ⊎_elim
        (λ (x : Takes g (vec_items v) r t). record { within = record { joins = x.sheet.1.joins; limited = x.sheet.1.limited }; current = λ k. absurd (false≢true (sym x.none ∙ k)) })
        (λ (x : Faults g (vec_items v) s r t). subst Holds (sym x.left) h) e
    step_holds (call.Write issue room) r s t h e = subst Holds (sym e.left) h
    step_holds (call.Weakest l) r s t h e =
        let m = s.plan in
        answer_holds (weakest_verdict m l.marks l.entries l.weights) (Finds g s.kept s) s t r h (λ ok a f. finds_holds s.kept s t a h (two_of_weakest m l.marks l.entries l.weights ok) f) e
    step_holds (call.Trial k l) r s t h e = answer_holds (trial_verdict s.plan k l.marks l.entries l.weights) (Tries g k s) s t r h (λ ok a f. subst Holds (sym f.1) h) e

    -- each answer is right for the plan that it is about, over which no sum is refused
    record Fine (m : Model W) (a : Answer W) : Type 0 where
      right : RightAnswer g m a
      fair : Fairly g m

    finds_right : (b : Bool) → (s t : State W) (a : Answer W) → Holds s → s.kept ≡ b → 2 ≤ length s.plan.codes → Finds g b s a t → RightAnswer g s.plan a
    finds_right true s t a h k two f = remembered_right g laws s t (fair_within g s.plan h.within) (h.current k) a f
    finds_right false s t a h k two f = worked_right g laws s.plan (fair_within g s.plan h.within) two a f.worked

    step_fine : (c : Call W) (r : Reply W) (s t : State W) → Holds s → Step g s c r t → (a : Answer W) → answer_of r ≡ Some a → Fine (asked g s.plan c) a
    step_fine (call.Enter v) r s t h e a is = absurd (no_edit _ _ _ _ s t r a e refl is)
    step_fine (call.Recode k v) r s t h e a is = absurd (no_edit _ _ _ _ s t r a e refl is)
    step_fine (call.Link x y w) r s t h e a is = absurd (no_edit _ _ _ _ s t r a e refl is)
    step_fine (call.Strike k) r s t h e a is = absurd (no_edit _ _ _ _ s t r a e refl is)
    step_fine (call.Reweigh k w) r s t h e a is = absurd (no_edit _ _ _ _ s t r a e refl is)
    step_fine (call.Mark k b) r s t h e a is = absurd (no_edit _ _ _ _ s t r a e refl is)
    step_fine (call.Weigh v) r s t h e a is = absurd (no_question (weigh_verdict s.plan (vec_items v)) (Weighs g (weighed g s.plan (vec_items v))) r a e.replied (λ w i. let told = ap answer_of w.1 in cc) is)
    step_fine (call.Read v) r s t h e a is =
        ⊎_elim
        (λ (x : Takes g (vec_items v) r t). let told = ap answer_of x.replied in cc)
        (λ (x : Faults g (vec_items v) s r t). let told = ap answer_of x.replied in cc) e
    step_fine (call.Write issue room) r s t h e a is = absurd (no_question (write_verdict g s.plan issue room) (λ q. bytes_of q ≡ Some (sheet_in g s.plan issue)) r a e.replied (λ b i. not_both r (sheet_in g s.plan issue) a b i) is)
    step_fine (call.Weakest l) r s t h e a is =
        let m = s.plan in
        let f = answer_here (weakest_verdict m l.marks l.entries l.weights) (Finds g s.kept s) s t r e a is in
        record {
          right = finds_right s.kept s t a h refl (two_of_weakest m l.marks l.entries l.weights f.0) f.1;
          fair = fair_within g m h.within;
        }
    step_fine (call.Trial k l) r s t h e a is =
        let m = s.plan in
        let f = answer_here (trial_verdict m k l.marks l.entries l.weights) (Tries g k s) s t r e a is in
        let there = link_of_trial m k l.marks l.entries l.weights f.0 in
        let fair = fair_within g (marked k false m) (marked_within g m h.within k there false) in
        record { right = worked_right g laws (marked k false m) fair (two_units g m h.within k there) a f.1.0; fair = fair }

    -- what holds of each turn
    record Good (x : Turn W) : Type 0 where
      replied : Replies g x.plan x.call x.reply
      answers : (m : Model W) (a : Answer W) → Says g x m a → Fine m a

    good : (xs : List (Turn W)) (s t : State W) → Holds s → Follows g s xs t → AllByRecursion Good xs
    good [] s t h f = tt
    good (x ∷ xs) s t h f =
        let u = f.1.0 in
        let step = f.1.1 in (
          record {
            replied = subst (λ m. Replies g m x.call x.reply) (sym f.0) (step_replies x.call x.reply s u step);
            answers = λ m a is. subst (λ o. Fine o a) (sym (is.about ∙ ap (λ o. asked g o x.call) f.0)) (step_fine x.call x.reply s u h step a is.answer);
          },
          good xs u t (step_holds x.call x.reply s u h step) f.1.2,
        )

    module _ (exact : Exact g.PARTS g.of g.nth) (narrow : (x : W) (i : ℕ) → g.nth (g.value x) i < 2 ^ 32) (told : (x y : W) → g.value x ≡ g.value y → x ≡ y) where
      same : (xs ys : List (Turn W)) → AllByRecursion Good xs → AllByRecursion Good ys → SameFigures g xs ys
      same xs ys p q x y m o a b hx hy sx sy alike =
          let c = (all-has Good xs x p hx).answers m a sx in
          let d = (all-has Good ys y q hy).answers o b sy in
          same_figure g laws told m o c.fair d.fair a b c.right d.right alike

      pub promised : (s t : State W) (xs : List (Turn W)) → Opened s → Follows g s xs t → Promise g xs
      promised s t xs o f =
          let all = good xs s t (start_holds s o) f in
          let plans : Led g opened xs = subst (λ m. Led g m xs) o.0 (led g xs s t f) in
          record {
            follows = (s, t, o, f);
            plans = plans;
            only = λ ys cs rs other. led_one g exact narrow told opened ys xs cs rs other plans;
            replies = All-weaker Good (λ x. Replies g x.plan x.call x.reply) (λ x h. h.replied) xs all;
            answers = All-weaker Good (λ x. (m : Model W) (a : Answer W) → Says g x m a → RightAnswer g m a) (λ x h m a is. (h.answers m a is).right) xs all;
            same = same xs xs all all;
            across = λ s2 t2 cs rs o2 other. same xs other.turns all (good other.turns s2 t2 (start_holds s2 o2) other.follows);
          }
