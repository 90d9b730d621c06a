-- A verdict from its checks, and a call from its verdict.
use Rattle.std.proofs.Common.{◌≡◌, Bool, true, false, Some, Ok, Err, Option, sym, refl, ap, ◌∙◌}
use Rattle.std.proofs.lemmas.Bool.{cond-true, cond-false}
use Rattle.refusals.specs.declared.Refusal.{Refusal}
use Rattle.weights.specs.declared.weight.Weight.{Ghosts}
use Rattle.plans.specs.declared.plan.Plan.{Plan}
use Rattle.plans.specs.Calls.{check, accepted, reply_of, after_of, Called}
use Rattle.plans.specs.Model.{Model, model_of}

pub fails : {ok : Bool} (e : Refusal) (rest : Option Refusal) → ok ≡ false → check ok e rest ≡ Some e
fails {ok} e rest h = cond-false ok rest (Some e) h

pub passes : {ok : Bool} (e : Refusal) (rest : Option Refusal) → ok ≡ true → check ok e rest ≡ rest
passes {ok} e rest h = cond-true ok rest (Some e) h

module _ {W X : Type 0} {g : Ghosts W} {verdict : Option Refusal} (x : X) (next : Model W) (p : Plan W g) where
  -- a refused call changes nothing
  pub refuses : {e : Refusal} → verdict ≡ Some e → Called verdict x next p (Err e) p
  refuses {e} is = record {
    reply = sym (ap (λ v. reply_of v x) is);
    model = sym (ap (λ v. after_of v next (model_of p)) is);
    same = refl;
  }

  pub accepts : (y : X) (q : Plan W g) → y ≡ x → verdict ≡ accepted → model_of q ≡ next → Called verdict x next p (Ok y) q
  accepts y q same is now = record {
    reply = ap Ok same ∙ sym (ap (λ v. reply_of v x) is);
    model = now ∙ sym (ap (λ v. after_of v next (model_of p)) is);
    same = tt;
  }
