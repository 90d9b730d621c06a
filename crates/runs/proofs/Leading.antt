-- The plans at the calls of a run follow from the accepted calls before, and no others do.
use Rattle.std.proofs.Common.{◌≡◌, ℕ, ◌^◌, ◌<◌, Bool, true, false, List, [], ◌∷◌, map, length, Some, None, vec_items, Option, sym, refl, ap, ◌∙◌, subst, ⊎_elim, arith}
use Rattle.refusals.specs.declared.Refusal.{Refusal}
use Rattle.weights.specs.declared.weight.Weight.{Ghosts}
use Rattle.weights.specs.Laws.{Exact}
use Rattle.plans.specs.Model.{Model}
use Rattle.answers.specs.Answered.{weakest_verdict, trial_verdict}
use Rattle.runs.specs.Steps.{State, Answer, Edits, Takes, Faults, Finds, Tries, Answers, Step, Turn, Follows}
use Rattle.runs.specs.Replies.{refuses, Becomes, After, Led}
use Rattle.runs.specs.declared.call.Call.{Call}
use Rattle.runs.specs.declared.call.Call.TheVariants as call
use Rattle.runs.specs.declared.reply.Reply.{Reply}
use Rattle.runs.proofs.Telling.{head_same, rest_same, sheet_told}

module _ {W : Type 0} (g : Ghosts W) where
  -- the plan after a call follows from it

  edit_after : (c : Call W) (v : Option Refusal) (q : Reply W) (next : Model W) (stay : Bool) (s t : State W) (r : Reply W) → ((n : Model W) → n ≡ next → Becomes g s.plan c n) → refuses q ≡ false → Edits g v q next stay s r t → After g (refuses r) s.plan c t.plan
  edit_after c None q next stay s t r f fine e = subst (λ b. After g b s.plan c t.plan) (sym (ap refuses e.replied ∙ fine)) (f t.plan (ap (λ u. u.plan) e.left))
  edit_after c (Some x) q next stay s t r f fine e = subst (λ b. After g b s.plan c t.plan) (sym (ap refuses e.replied)) (ap (λ u. u.plan) e.left)

  same_after : (c : Call W) (b : Bool) (m n : Model W) → ((o : Model W) → o ≡ m → Becomes g m c o) → n ≡ m → After g b m c n
  same_after c true m n f e = e
  same_after c false m n f e = f n e

  finds_plan : (b : Bool) (s t : State W) (a : Answer W) → Finds g b s a t → t.plan ≡ s.plan
  finds_plan true s t a f = ap (λ u. u.plan) f.left
  finds_plan false s t a f = f.plan

  answers_plan : (v : Option Refusal) (P : Answer W → State W → Type 0) (s t : State W) (r : Reply W) → ((a : Answer W) → P a t → t.plan ≡ s.plan) → Answers g v P s r t → t.plan ≡ s.plan
  answers_plan None P s t r f h = f h.0 h.2
  answers_plan (Some x) P s t r f h = ap (λ u. u.plan) h.1

  step_after : (c : Call W) (r : Reply W) (s t : State W) → Step g s c r t → After g (refuses r) s.plan c t.plan
  step_after (call.Enter v) r s t h = edit_after (call.Enter v) _ _ _ _ s t r (λ n e. e) refl h
  step_after (call.Recode k v) r s t h = edit_after (call.Recode k v) _ _ _ _ s t r (λ n e. e) refl h
  step_after (call.Link a b w) r s t h = edit_after (call.Link a b w) _ _ _ _ s t r (λ n e. e) refl h
  step_after (call.Strike k) r s t h = edit_after (call.Strike k) _ _ _ _ s t r (λ n e. e) refl h
  step_after (call.Reweigh k w) r s t h = edit_after (call.Reweigh k w) _ _ _ _ s t r (λ n e. e) refl h
  step_after (call.Mark k b) r s t h = edit_after (call.Mark k b) _ _ _ _ s t r (λ n e. e) refl h
  step_after (call.Weigh v) r s t h = same_after (call.Weigh v) (refuses r) s.plan t.plan (λ n e. e) (ap (λ u. u.plan) h.left)
  step_after (call.Read v) r s t h =
      let c = call.Read v in
      ⊎_elim
      (λ (x : Takes g (vec_items v) r t). subst (λ b. After g b s.plan c t.plan) (sym (ap refuses x.replied)) x.sheet)
      (λ (x : Faults g (vec_items v) s r t). subst (λ b. After g b s.plan c t.plan) (sym (ap refuses x.replied)) (ap (λ u. u.plan) x.left)) h
  step_after (call.Write issue room) r s t h = same_after (call.Write issue room) (refuses r) s.plan t.plan (λ n e. e) (ap (λ u. u.plan) h.left)
  step_after (call.Weakest l) r s t h = same_after (call.Weakest l) (refuses r) s.plan t.plan (λ n e. e) (answers_plan (weakest_verdict s.plan l.marks l.entries l.weights) (Finds g s.kept s) s t r (finds_plan s.kept s t) h)
  step_after (call.Trial k l) r s t h = same_after (call.Trial k l) (refuses r) s.plan t.plan (λ n e. e) (answers_plan (trial_verdict s.plan k l.marks l.entries l.weights) (Tries g k s) s t r (λ a p. ap (λ u. u.plan) p.1) h)

  pub led : (xs : List (Turn W)) (s t : State W) → Follows g s xs t → Led g s.plan xs
  led [] s t f = tt
  led (x ∷ xs) s t f = (f.0, (f.1.0.plan, step_after x.call x.reply s f.1.0 f.1.1, led xs f.1.0 t f.1.2))

  module _ (exact : Exact g.PARTS g.of g.nth) (narrow : (x : W) (i : ℕ) → g.nth (g.value x) i < 2 ^ 32) (told : (x y : W) → g.value x ≡ g.value y → x ≡ y) where
    becomes_one : (c : Call W) (m n o : Model W) → Becomes g m c n → Becomes g m c o → n ≡ o
    becomes_one (call.Enter v) m n o p q = p ∙ sym q
    becomes_one (call.Recode k v) m n o p q = p ∙ sym q
    becomes_one (call.Link a b w) m n o p q = p ∙ sym q
    becomes_one (call.Strike k) m n o p q = p ∙ sym q
    becomes_one (call.Reweigh k w) m n o p q = p ∙ sym q
    becomes_one (call.Mark k b) m n o p q = p ∙ sym q
    becomes_one (call.Weigh v) m n o p q = p ∙ sym q
    becomes_one (call.Read v) m n o p q = (sheet_told g exact narrow told p.0 q.0 n o p.1 q.1 (sym p.2 ∙ q.2)).1
    becomes_one (call.Write issue room) m n o p q = p ∙ sym q
    becomes_one (call.Weakest l) m n o p q = p ∙ sym q
    becomes_one (call.Trial k l) m n o p q = p ∙ sym q

    after_one : (b : Bool) (c : Call W) (m n o : Model W) → After g b m c n → After g b m c o → n ≡ o
    after_one true c m n o p q = p ∙ sym q
    after_one false c m n o p q = becomes_one c m n o p q

    pub led_one : (m : Model W) (xs ys : List (Turn W)) → map (λ x. x.call) xs ≡ map (λ x. x.call) ys → map (λ x. x.reply) xs ≡ map (λ x. x.reply) ys → Led g m xs → Led g m ys → xs ≡ ys
    led_one m [] [] cs rs p q = refl
    led_one m [] (y ∷ ys) cs rs p q = let z = ap length cs in absurd (omega arith)
    led_one m (x ∷ xs) [] cs rs p q = let z = ap length cs in absurd (omega arith)
    led_one m (x ∷ xs) (y ∷ ys) cs rs p q =
        let c : x.call ≡ y.call = head_same _ _ _ _ cs in
        let r : x.reply ≡ y.reply = head_same _ _ _ _ rs in
        let plan : x.plan ≡ y.plan = p.0 ∙ sym q.0 in
        let here : x ≡ y = λ i. record { plan = plan i; call = c i; reply = r i } in
        let first = subst (λ z. After g (refuses z.reply) m z.call p.1.0) here p.1.1 in
        let next : p.1.0 ≡ q.1.0 = after_one (refuses y.reply) y.call m p.1.0 q.1.0 first q.1.1 in
        let rest : xs ≡ ys = led_one q.1.0 xs ys (rest_same _ _ _ _ cs) (rest_same _ _ _ _ rs) (subst (λ n. Led g n xs) next p.1.2) q.1.2 in
        λ i. here i ∷ rest i
