-- What a look through the entries keeps: the best entry so far.
use Rattle.std.proofs.Common.{◌≡◌, ℕ, ◌<◌, ◌≤◌, Bool, true, false, cond, Some, None, Option, sym, refl, ap, ◌∙◌, ⊎_elim, arith}
use Rattle.std.proofs.lemmas.Bool.{cases_lt, cases_eq}
use Rattle.queues.specs.Keys.{Becomes, Leads, Taken}
use Rattle.queues.specs.Slots.{Best, beats}
use Rattle.queues.proofs.Orders.{Ordered, le_self, le_flip, le_above}
use Rattle.std.proofs.lemmas.Map.{update_here, update_apart}
use Rattle.queues.proofs.Slotted.{update_same}

-- no entry is there and not there
pub clash : {W P : Type 0} {o : Option W} {v : W} → o ≡ Some v → o ≡ None → P
clash is e = let z : ◌≡◌ {A = ℕ} 0 1 = cc in absurd (omega arith)

pub true_or : {P : Type 0} {f : Bool} → f ≡ true → f ≡ false → P
true_or a b = let z : true ≡ false = sym a ∙ b in absurd (grind arith)

not_beaten : (b : Bool) → cond b false true ≡ false → b ≡ true
not_beaten true e = refl
not_beaten false e = true_or refl e

beaten : (b : Bool) → cond b false true ≡ true → b ≡ false
beaten true e = true_or e refl
beaten false e = refl

pub best_same : {W : Type 0} (le : W → W → Bool) (before after : ℕ → Option W) → ((k : ℕ) → after k ≡ before k) → (o : Option (ℕ × W)) → Best le before o → Best le after o
best_same le before after same None b = λ k. same k ∙ b k
best_same le before after same (Some p) b = (
  record {
    here = same p.0 ∙ b.0.here;
    most = λ h v e. b.0.most h v (sym (same h) ∙ e);
  },
  λ h v lt e. b.1 h v lt (sym (same h) ∙ e),
)

module _ {W : Type 0} (le : W → W → Bool) (laws : Ordered le) (before after : ℕ → Option W) (i : ℕ) (past : (k : ℕ) → i ≤ k → before k ≡ None) where
  -- the place before which an entry stands
  under : (k : ℕ) (v : W) → before k ≡ Some v → k < i
  under k v e = ⊎_elim (λ (l : k < i). l) (λ (m : i ≤ k). clash e (past k m)) (cases_lt k i)

  pub best_skip : (o : Option (ℕ × W)) → Best le before o → Becomes before after i None → Best le after o
  best_skip o b step = best_same le before after (λ k. step k ∙ update_same before i k None (past i (omega arith))) o b

  module _ (x : W) (step : Becomes before after i (Some x)) where
    now_there : after i ≡ Some x
    now_there = step i ∙ update_here before i (Some x)

    now_else : (k : ℕ) → (k ≡ i → ⊥) → after k ≡ before k
    now_else k ne = step k ∙ update_apart before i (Some x) k ne

    now_most : (top : W) → le x top ≡ true → ((h : ℕ) (v : W) → before h ≡ Some v → le v top ≡ true) → (h : ℕ) (v : W) → after h ≡ Some v → le v top ≡ true
    now_most top less most h v e = ⊎_elim
        (λ (s : h ≡ i). let same : x ≡ v = let a = ap after s in let b = now_there in cc in rw same at less)
        (λ (ne : h ≡ i → ⊥). most h v (sym (now_else h ne) ∙ e))
        (cases_eq h i)

    pub best_keep : (o : Option (ℕ × W)) → Best le before o → beats le o x ≡ false → Best le after o
    best_keep None b e = true_or refl e
    best_keep (Some p) b e =
        let lt = under p.0 p.1 b.0.here in (
          record {
            here = now_else p.0 (λ s. omega arith) ∙ b.0.here;
            most = now_most p.1 (not_beaten (le x p.1) e) b.0.most;
          },
          λ h v before-p there. b.1 h v before-p (sym (now_else h (λ s. omega arith)) ∙ there),
        )

    pub best_new : (o : Option (ℕ × W)) → Best le before o → beats le o x ≡ true → Best le after (Some (i, x))
    best_new None b e = (
      record {
        here = now_there;
        most = now_most x (le_self laws x) (λ h v there. clash there (b h));
      },
      λ h v lt there. clash there (now_else h (λ s. omega arith) ∙ b h),
    )
    best_new (Some p) b e =
        let less = beaten (le x p.1) e in (
          record {
            here = now_there;
            most = now_most x (le_self laws x) (λ h v there. laws.trans v p.1 x (b.0.most h v there) (le_flip laws x p.1 less));
          },
          λ h v lt there. le_above laws x p.1 v less (b.0.most h v (sym (now_else h (λ s. omega arith)) ∙ there)),
        )

pub taken_some : {W : Type 0} (le : W → W → Bool) (before after : ℕ → Option W) (o : Option (ℕ × W)) (p : ℕ × W) → o ≡ Some p → p.0 < 64 → Leads le before p.0 p.1 → Becomes before after p.0 None → Taken le before after o
taken_some le before after o p e low h b = rw e (record { group = low; here = h.here; most = h.most }, b)
