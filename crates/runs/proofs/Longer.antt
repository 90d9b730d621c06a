-- A run that goes on by one call.
use Rattle.std.proofs.Common.{◌≡◌, List, [], ◌∷◌, ◌++◌, sym, refl, ap, ◌∙◌, subst}
use Rattle.std.proofs.lemmas.List.{map-append}
use Rattle.weights.specs.declared.weight.Weight.{Ghosts}
use Rattle.runs.specs.Steps.{State, Step, Turn, Follows, Ran}
use Rattle.runs.specs.declared.call.Call.{Call}
use Rattle.runs.specs.declared.reply.Reply.{Reply}

module _ {W : Type 0} (g : Ghosts W) where
  follows_more : (xs : List (Turn W)) (s t u : State W) (x : Turn W) → Follows g s xs t → x.plan ≡ t.plan → Step g t x.call x.reply u → Follows g s (xs ++ (x ∷ [])) u
  follows_more [] s t u x f here step = (here ∙ ap (λ v. v.plan) (sym f), (u, subst (λ v. Step g v x.call x.reply u) (sym f) step, refl))
  follows_more (y ∷ ys) s t u x f here step = (f.0, (f.1.0, f.1.1, follows_more ys f.1.0 t u x f.1.2 here step))

  pub ran_none : (s : State W) → Ran g s [] [] s
  ran_none s = record { turns = []; calls_are = refl; replies_are = refl; follows = refl }

  pub ran_more : (s t u : State W) (calls : List (Call W)) (replies : List (Reply W)) (c : Call W) (r : Reply W) → Ran g s calls replies t → Step g t c r u → Ran g s (calls ++ (c ∷ [])) (replies ++ (r ∷ [])) u
  ran_more s t u calls replies c r run step =
      let x : Turn W = record { plan = t.plan; call = c; reply = r } in
      record {
        turns = run.turns ++ (x ∷ []);
        calls_are = map-append (λ y. y.call) run.turns (x ∷ []) ∙ ap (λ ys. ys ++ (c ∷ [])) run.calls_are;
        replies_are = map-append (λ y. y.reply) run.turns (x ∷ []) ∙ ap (λ ys. ys ++ (r ∷ [])) run.replies_are;
        follows = follows_more run.turns s t u x run.follows refl step;
      }
