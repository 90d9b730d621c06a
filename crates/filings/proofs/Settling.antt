-- From what a call on the plan and the table say to what becomes of kept marks.
use Rattle.std.proofs.Common.{◌≡◌, ℕ, zero, suc, ◌<◌, Bool, true, false, cond, ◌&&◌, eqb, ltb, List, length, get_or, Some, None, Ok, Option, refl, sym, ap, ◌∙◌, subst, ⊎_elim, arith}
use Rattle.std.proofs.lemmas.List.{get_or-take}
use Rattle.std.proofs.lemmas.Bool.{and_parts, cases_Bool, ltb-true}
use Rattle.refusals.specs.declared.Refusal.{Refusal}
use Rattle.refusals.specs.declared.Refusal.TheVariants.{NoSuchLink, BadMark}
use Rattle.weights.specs.declared.weight.Weight.{Ghosts}
use Rattle.plans.specs.declared.plan.Link.{Link}
use Rattle.plans.specs.declared.plan.Plan.{Plan}
use Rattle.plans.specs.Calls.{Called, reply_of, after_of, mark_verdict}
use Rattle.plans.specs.Model.{Model, model_of}
use Rattle.plans.proofs.Linking.{link_size_lem}
use Rattle.plans.proofs.Verdicts.{fails, passes}
use Rattle.filings.specs.declared.filing.Filing.{Filing}
use Rattle.filings.specs.declared.kept.Edit.{Edit}
use Rattle.filings.specs.Edits.{outlives, outlive_at}
use Rattle.filings.specs.Filed.{Filed, Current, Marks}
use Rattle.filings.proofs.Parting.{outlive_at_lem}
use Rattle.filings.proofs.Staying.{Fairly, fair_plan}

module _ {W X : Type 0} {g : Ghosts W} {verdict : Option Refusal} {x y : X} {next : Model W} {p q : Plan W g} where
  -- an accepted call was not to be refused
  pub was_accepted : Called verdict x next p (Ok y) q → verdict ≡ None
  was_accepted c = go verdict c.reply
    where
      go : (v : Option Refusal) → Ok y ≡ reply_of v x → v ≡ None
      go None e = cc
      go (Some r) e = let z : ◌≡◌ {A = ℕ} 0 1 = cc in absurd (omega arith)

  pub now_next : Called verdict x next p (Ok y) q → model_of q ≡ next
  now_next c = c.model ∙ ap (λ v. after_of v next (model_of p)) (was_accepted c)

-- the link that a call names, in the model
pub in_model : {W : Type 0} {g : Ghosts W} (p : Plan W g) (k : ℕ) (l : Link W) → k < p.link_count → l ≡ get_or p.links.now k l → (k < length (model_of p).links) × (l ≡ get_or (model_of p).links k l)
in_model p k l h is = (rw (link_size_lem p) h, is ∙ sym (get_or-take p.link_count p.links.now k l h))

-- whether marks outlive an edit of that link
pub outlives_it : {W : Type 0} {g : Ghosts W} (p : Plan W g) (sides : List ℕ) (edit : Link W → Edit) (k : ℕ) (l : Link W) → k < p.link_count → l ≡ get_or p.links.now k l → outlives sides (edit l) ≡ outlive_at sides edit (model_of p).links k
outlives_it p sides edit k l h is = let m = in_model p k l h is in sym (outlive_at_lem sides edit (model_of p).links k l m.0 m.1)

-- marks that stay are those of a weakest division of the new plan
pub stays_current : {W : Type 0} {g : Ghosts W} (before after : Filing W g) (stay : Bool) (next : Model W) → model_of after.plan ≡ next
    → after.kept.kept ≡ (before.kept.kept && stay) → after.kept.sides ≡ before.kept.sides
    → (Fairly g (model_of before.plan) → Fairly g next → Marks g (model_of before.plan) before.kept.sides → stay ≡ true → Marks g next before.kept.sides)
    → Current g before → Current g after
stays_current {g = g} before after stay next is kept sides keeps current flag =
    let both = and_parts before.kept.kept stay (sym kept ∙ flag) in
    let new = keeps (fair_plan before.plan) (subst (λ m. Fairly g m) is (fair_plan after.plan)) (current both.0) both.1 in
    subst (λ m. Marks g m after.kept.sides) (sym is) (subst (λ xs. Marks g next xs) (sym sides) new)

-- a filing whose marks stay as the table says keeps what every filing keeps
pub stays_filed : {W : Type 0} {g : Ghosts W} (before after : Filing W g) (stay : Bool) (next : Model W) → model_of after.plan ≡ next
    → after.kept.kept ≡ (before.kept.kept && stay) → after.kept.sides ≡ before.kept.sides
    → (Fairly g (model_of before.plan) → Fairly g next → Marks g (model_of before.plan) before.kept.sides → stay ≡ true → Marks g next before.kept.sides)
    → Filed g before → Filed g after
stays_filed before after stay next is kept sides keeps filed = record {
  sides = ap length sides ∙ filed.sides;
  current = stays_current before after stay next is kept sides keeps filed.current;
}

-- a mark below 2 is 1 where it is not 0
pub by_mark : {X : Type 0} (b : ℕ) → b < 2 → (x y : X) → cond (eqb b 1) x y ≡ cond (eqb b 0) y x
by_mark zero h x y = refl
by_mark (suc zero) h x y = refl
by_mark (suc (suc b)) h x y = absurd (omega arith)

-- a mark that is accepted is 0 or 1
pub mark_below : {W : Type 0} (m : Model W) (k b : ℕ) → mark_verdict m k b ≡ None → b < 2
mark_below m k b e = ⊎_elim
    (λ (there : ltb k (length m.links) ≡ true). ⊎_elim (λ (low : ltb b 2 ≡ true). ltb-true b 2 low) (λ (high : ltb b 2 ≡ false). clash (sym e ∙ passes NoSuchLink _ there ∙ fails BadMark _ high)) (cases_Bool (ltb b 2)))
    (λ (none : ltb k (length m.links) ≡ false). clash (sym e ∙ fails NoSuchLink _ none))
    (cases_Bool (ltb k (length m.links)))
  where
    clash : {e : Refusal} → None ≡ Some e → b < 2
    clash n = let z : ◌≡◌ {A = ℕ} 0 1 = cc in absurd (omega arith)
