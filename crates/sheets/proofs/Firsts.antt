-- First faults: there is at most one, and how those of two runs of fields join.
use Rattle.std.proofs.Common.{◌≡◌, ℕ, zero, suc, ◌+◌, ◌<◌, List, [], ◌∷◌, ◌++◌, Some, None, Option, sym, refl, ap, ◌∙◌, ⊎_elim, add-one, arith}
use Rattle.std.specs.List.{AllByRecursion}
use Rattle.std.proofs.ByRecursion.{All-append}
use Rattle.std.proofs.lemmas.List.{append_assoc}
use Rattle.std.proofs.lemmas.Bool.{cases_lt}
use Rattle.weights.specs.declared.weight.Weight.{Ghosts}
use Rattle.sheets.specs.declared.fault.Fault.{Fault}
use Rattle.sheets.specs.Fields.{Field, through}
use Rattle.sheets.specs.Faults.{fault_of, Faultless, FirstIn}

pub none_some : {A : Type 0} {o : Option A} {x : A} → o ≡ None → o ≡ Some x → ⊥
none_some p q = cc

all_mid : {A : Type 0} (P : A → Type 0) (a : List A) (x : A) (b : List A) → AllByRecursion P (a ++ (x ∷ b)) → P x
all_mid P [] x b h = h.0
all_mid P (y ∷ a) x b h = all_mid P a x b h.1

module _ {W : Type 0} (g : Ghosts W) (bs : List ℕ) where
  same : (d e : Fault) (a b : List Field) (x y : Field) (p q : List Field) → a ++ (x ∷ p) ≡ b ++ (y ∷ q) → Faultless g bs a → Faultless g bs b → fault_of g bs x ≡ Some d → fault_of g bs y ≡ Some e → d ≡ e
  same d e [] [] x y p q o ca cb fx fy = cc
  same d e [] (z ∷ b) x y p q o ca cb fx fy = let s : x ≡ z = cc in absurd (none_some (ap (fault_of g bs) s ∙ cb.0) fx)
  same d e (w ∷ a) [] x y p q o ca cb fx fy = let s : y ≡ w = cc in absurd (none_some (ap (fault_of g bs) s ∙ ca.0) fy)
  same d e (w ∷ a) (z ∷ b) x y p q o ca cb fx fy = let t : a ++ (x ∷ p) ≡ b ++ (y ∷ q) = cc in same d e a b x y p q t ca.1 cb.1 fx fy

  pub one_fault_lem : (fs : List Field) (d e : Fault) → FirstIn g bs fs d → FirstIn g bs fs e → d ≡ e
  one_fault_lem fs d e p q = same d e p.before q.before p.field q.field p.after q.after (sym p.order ∙ q.order) p.clear q.clear p.fault q.fault

  pub no_fault_lem : (fs : List Field) (e : Fault) → Faultless g bs fs → FirstIn g bs fs e → ⊥
  no_fault_lem fs e h p = none_some (all_mid (λ f. fault_of g bs f ≡ None) p.before p.field p.after (rw p.order at h)) p.fault

  -- a fault in the first of two runs of fields, and in the second where the first has none
  pub in_left : (a b : List Field) (e : Fault) → FirstIn g bs a e → FirstIn g bs (a ++ b) e
  in_left a b e p = record {
    before = p.before;
    field = p.field;
    after = p.after ++ b;
    order = ap (λ fs. fs ++ b) p.order ∙ append_assoc p.before (p.field ∷ p.after) b;
    clear = p.clear;
    fault = p.fault;
  }

  pub in_right : (a b : List Field) (e : Fault) → Faultless g bs a → FirstIn g bs b e → FirstIn g bs (a ++ b) e
  in_right a b e h p = record {
    before = a ++ p.before;
    field = p.field;
    after = p.after;
    order = ap (λ fs. a ++ fs) p.order ∙ sym (append_assoc a p.before (p.field ∷ p.after));
    clear = All-append (λ f. fault_of g bs f ≡ None) a p.before h p.clear;
    fault = p.fault;
  }

  -- the one field of a run
  pub in_one : (f : Field) (e : Fault) → fault_of g bs f ≡ Some e → FirstIn g bs (f ∷ []) e
  in_one f e h = record { before = []; field = f; after = []; order = refl; clear = tt; fault = h }

  -- one run of fields after another
  pub clear_more : (f : ℕ → List Field) (k : ℕ) → Faultless g bs (through f k) → Faultless g bs (f k) → Faultless g bs (through f (k + 1))
  clear_more f k h here = rw add-one (All-append (λ x. fault_of g bs x ≡ None) (through f k) (f k) h here)

  pub fault_at_lem : (f : ℕ → List Field) (n k : ℕ) (e : Fault) → k < n → Faultless g bs (through f k) → FirstIn g bs (f k) e → FirstIn g bs (through f n) e
  fault_at_lem f zero k e lt h p = absurd (omega arith)
  fault_at_lem f (suc n) k e lt h p =
      ⊎_elim
      (λ (l : k < n). in_left (through f n) (f n) e (fault_at_lem f n k e l h p))
      (λ l. let s : k ≡ n = omega arith in in_right (through f n) (f n) e (rw s at h) (rw s at p))
      (cases_lt k n)
