-- How who waits, and the marks of it, follow what a queue's calls do.
use Rattle.std.proofs.Common.{◌≡◌, ℕ, zero, suc, ◌<◌, Bool, true, false, cond, List, length, get_or, set, replicate, Some, None, Ok, Err, Option, Result, sym, refl, ap, ◌∙◌, ap₂, ⊎_elim, arith}
use Rattle.std.proofs.lemmas.List.{get_or-set_other, get_or-set_same}
use Rattle.std.proofs.lemmas.Map.{update_here, update_apart}
use Rattle.std.proofs.lemmas.Bool.{cases_eq, cases_Bool, cond-true, cond-false}
use Rattle.refusals.specs.declared.Refusal.{Refusal}
use Rattle.weights.specs.declared.weight.Weight.{Ghosts}
use Rattle.queues.specs.Keys.{Becomes, Empty, Raised}
use Rattle.scans.specs.Waits.{worth, Waits, Marks, AllMarked}

module _ {W V : Type 0} {value : W → V} {keys : ℕ → Option W} {p : ℕ → Bool} {m : ℕ → V} (waits : Waits value keys p m) where
  -- the key of a group of p
  pub waits_here : (x : ℕ) → p x ≡ true → (k : W) × (keys x ≡ Some k) × (value k ≡ m x)
  waits_here x t = go (keys x) (waits.each x ∙ cond-true (p x) (Some (m x)) None t)
    where
      go : (o : Option W) → worth value o ≡ Some (m x) → (k : W) × (o ≡ Some k) × (value k ≡ m x)
      go None e = cc
      go (Some k) e = (k, refl, cc)

  -- what has a key is of p
  pub waits_some : (x : ℕ) (k : W) → keys x ≡ Some k → (p x ≡ true) × (value k ≡ m x)
  waits_some x k e =
      let is : Some (value k) ≡ cond (p x) (Some (m x)) None = sym (ap (worth value) e) ∙ waits.each x in
      ⊎_elim
      (λ (t : p x ≡ true). let h = is ∙ cond-true (p x) (Some (m x)) None t in (t, cc))
      (λ (f : p x ≡ false). let h = is ∙ cond-false (p x) (Some (m x)) None f in cc)
      (cases_Bool (p x))

  pub waits_empty : Empty keys → (x : ℕ) → p x ≡ false
  waits_empty empty x =
      ⊎_elim
      (λ (t : p x ≡ true). let r = waits_here x t in let e = empty x in let f = r.1 in let z : ◌≡◌ {A = ℕ} 0 1 = cc in absurd (omega arith))
      (λ (f : p x ≡ false). f)
      (cases_Bool (p x))

  module _ {p' : ℕ → Bool} {m' : ℕ → V} where
    -- one entry changes
    pub waits_change : {after : ℕ → Option W} (g : ℕ) (o : Option W) → Becomes keys after g o → worth value o ≡ cond (p' g) (Some (m' g)) None
        → ((x : ℕ) → (x ≡ g → ⊥) → p x ≡ p' x) → ((x : ℕ) → (x ≡ g → ⊥) → m x ≡ m' x) → Waits value after p' m'
    waits_change {after} g o becomes here ps ms = record { each = λ x. ⊎_elim (now x) (other x) (cases_eq x g) }
      where
        now : (x : ℕ) → x ≡ g → worth value (after x) ≡ cond (p' x) (Some (m' x)) None
        now x e = rw e (ap (worth value) (becomes g ∙ update_here keys g o) ∙ here)

        other : (x : ℕ) → (x ≡ g → ⊥) → worth value (after x) ≡ cond (p' x) (Some (m' x)) None
        other x ne = ap (worth value) (becomes x ∙ update_apart keys g o x ne) ∙ waits.each x ∙ ap₂ (λ b y. cond b (Some y) None) (ps x ne) (ms x ne)

    -- no entry changes
    pub waits_same : ((x : ℕ) → p x ≡ p' x) → ((x : ℕ) → p x ≡ true → m x ≡ m' x) → Waits value keys p' m'
    waits_same ps ms = record {
      each = λ x. waits.each x ∙ ⊎_elim
          (λ (t : p x ≡ true). ap₂ (λ b y. cond b (Some y) None) (ps x) (ms x t))
          (λ (f : p x ≡ false). cond-false (p x) (Some (m x)) None f ∙ sym (cond-false (p' x) (Some (m' x)) None (sym (ps x) ∙ f)))
          (cases_Bool (p x));
    }

module _ {marks : List Bool} {p : ℕ → Bool} (marked : Marks marks p) where
  -- one mark changes
  pub mark : {p' : ℕ → Bool} (g : ℕ) (b : Bool) → g < length marks → b ≡ p' g → ((x : ℕ) → (x ≡ g → ⊥) → p x ≡ p' x) → Marks (set marks g b) p'
  mark g b room here ps = record {
    each = λ x. ⊎_elim
        (λ (e : x ≡ g). rw e (get_or-set_same marks g b false room ∙ here))
        (λ (ne : x ≡ g → ⊥). get_or-set_other marks g x b false ne ∙ marked.each x ∙ ps x ne)
        (cases_eq x g);
  }

  pub mark_same : {p' : ℕ → Bool} → ((x : ℕ) → p x ≡ p' x) → Marks marks p'
  mark_same ps = record { each = λ x. marked.each x ∙ ps x }

-- at first nothing is marked
pub unmarked : (n : ℕ) → Marks (replicate n false) (λ _. false)
unmarked n = record { each = none n }
  where
    none : (n x : ℕ) → get_or (replicate n false) x false ≡ false
    none zero x = refl
    none (suc n) zero = refl
    none (suc n) (suc x) = none n x

module _ {W : Type 0} {n : ℕ} {keys after : ℕ → Option W} {marks : List Bool} (all : AllMarked n keys marks) (g : ℕ) where
  -- all but g wait as before
  others : (o : Option W) → Becomes keys after g o → (x : ℕ) (k : W) → after x ≡ Some k → (x ≡ g → ⊥) → (x < n) × (get_or marks x false ≡ true)
  others o becomes x k e ne = all.each x k (sym (becomes x ∙ update_apart keys g o x ne) ∙ e)

  -- g is raised, or the sum is refused
  pub marked_raised : (m : Ghosts W) (by : W) (answer : Result W Refusal) → Raised m.value m.plus m.size keys after g by answer → AllMarked n after marks
  marked_raised m by (Ok k) raised = record {
    each = λ x j e. ⊎_elim
        (λ (is : x ≡ g). rw is (all.each g raised.0.0 raised.0.1))
        (λ (ne : x ≡ g → ⊥). others (Some k) raised.1 x j e ne)
        (cases_eq x g);
  }
  marked_raised m by (Err refusal) raised = record { each = λ x j e. all.each x j (sym (raised.1 x) ∙ e) }
