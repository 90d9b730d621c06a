-- What a look through the groups keeps: which entry is to be taken among those so far.
use Rattle.std.proofs.Common.{◌≡◌, ℕ, zero, suc, ◌+◌, ◌<◌, ◌≤◌, Bool, true, false, cond, ltb, List, length, set, replicate, Some, None, Option, sym, refl, ap, ◌∙◌, ⊎_elim, arith}
use Rattle.std.proofs.lemmas.List.{get_or-set_same, get_or-set_other}
use Rattle.std.proofs.lemmas.Map.{update_here, update_apart}
use Rattle.std.proofs.lemmas.Bool.{cases_lt, cases_eq, cond-true, cond-false, lt-ltb, le-ltb}
use Rattle.queues.specs.Keys.{Becomes}
use Rattle.queues.specs.Slots.{Reached}
use Rattle.queues.proofs.Looking.{clash, true_or}
use Rattle.queues.proofs.Orders.{Ordered, le_self, le_flip, le_above}
use Rattle.drains.specs.declared.tied.Tie.{Tie}
use Rattle.drains.specs.declared.tied.Tie.TheVariants.{Lowest, Highest}
use Rattle.drains.specs.Ties.{keyed, Before, Picked, prefers}

pub keyed_none : {W : Type 0} (n g : ℕ) → keyed {W = W} (replicate n None) g ≡ None
keyed_none zero g = refl
keyed_none (suc n) zero = refl
keyed_none (suc n) (suc g) = keyed_none n g

pub keyed_set : {W : Type 0} (keys : List (Option W)) (g : ℕ) (x : Option W) → g < length keys → Becomes (keyed keys) (keyed (set keys g x)) g x
keyed_set keys g x room q = ⊎_elim
    (λ (e : q ≡ g). rw e (get_or-set_same keys g x None room ∙ sym (update_here (keyed keys) g x)))
    (λ (ne : q ≡ g → ⊥). get_or-set_other keys g q x None ne ∙ sym (update_apart (keyed keys) g x q ne))
    (cases_eq q g)

-- the entries of the groups below i
abbrev pub up_to : {W : Type 0} → (ℕ → Option W) → ℕ → ℕ → Option W
up_to key i g = cond (ltb g i) (key g) None

picked_same : {W : Type 0} (le : W → W → Bool) (tie : Tie) (before after : ℕ → Option W) → ((g : ℕ) → after g ≡ before g) → (o : Option (ℕ × W)) → Picked le tie before o → Picked le tie after o
picked_same le tie before after same None p = λ g. same g ∙ p g
picked_same le tie before after same (Some q) p = (
  record { group = p.0.group; here = same q.0 ∙ p.0.here; most = λ h v e. p.0.most h v (sym (same h) ∙ e) },
  λ h v e as-heavy. p.1 h v (sym (same h) ∙ e) as-heavy,
)

module _ {W : Type 0} (key : ℕ → Option W) where
  under : (i g : ℕ) → g < i → up_to key i g ≡ key g
  under i g h = cond-true (ltb g i) (key g) None (lt-ltb g i h)

  past : (i g : ℕ) → i ≤ g → up_to key i g ≡ None
  past i g h = cond-false (ltb g i) (key g) None (le-ltb g i h)

  pub entry_under : (i g : ℕ) (v : W) → up_to key i g ≡ Some v → g < i
  entry_under i g v e = ⊎_elim (λ (l : g < i). l) (λ (m : i ≤ g). clash e (past i g m)) (cases_lt g i)

  -- the groups below i + 1 are those below i, and i
  other : (i g : ℕ) → (g ≡ i → ⊥) → up_to key (i + 1) g ≡ up_to key i g
  other i g ne = ⊎_elim
      (λ (l : g < i). under (i + 1) g (omega arith) ∙ sym (under i g l))
      (λ (m : i ≤ g). past (i + 1) g (⊎_elim (λ (l : g < i + 1). absurd (ne (omega arith))) (λ n. n) (cases_lt g (i + 1))) ∙ sym (past i g m))
      (cases_lt g i)

module _ {W : Type 0} (le : W → W → Bool) (laws : Ordered le) (tie : Tie) (key : ℕ → Option W) where
  pub pick_none : Picked le tie (up_to key 0) None
  pick_none g = past key 0 g (omega arith)

  pub pick_skip : (i : ℕ) → key i ≡ None → (o : Option (ℕ × W)) → Picked le tie (up_to key i) o → Picked le tie (up_to key (i + 1)) o
  pick_skip i none o p = picked_same le tie (up_to key i) (up_to key (i + 1)) (λ g. ⊎_elim (λ (e : g ≡ i). rw e (under key (i + 1) i (omega arith) ∙ none ∙ sym (past key i i (omega arith)))) (λ (ne : g ≡ i → ⊥). other key i g ne) (cases_eq g i)) o p

  pub pick_all : ((g : ℕ) → 64 ≤ g → key g ≡ None) → (o : Option (ℕ × W)) → Picked le tie (up_to key 64) o → Picked le tie key o
  pick_all far o p = picked_same le tie (up_to key 64) key (λ g. ⊎_elim (λ (l : g < 64). sym (under key 64 g l)) (λ (m : 64 ≤ g). far g m ∙ sym (past key 64 g m)) (cases_lt g 64)) o p

  pub pick_reached : (i : ℕ) (o : Option (ℕ × W)) → Picked le tie (up_to key i) o → Reached o i
  pick_reached i None p = tt
  pick_reached i (Some q) p = entry_under key i q.0 q.1 p.0.here

  module _ (i : ℕ) (within : i < 64) (x : W) (is : key i ≡ Some x) where
    new_here : up_to key (i + 1) i ≡ Some x
    new_here = under key (i + 1) i (omega arith) ∙ is

    -- what holds of the entries so far and of the new one holds of all
    each : (P : ℕ → W → Type 0) → P i x → ((h : ℕ) (v : W) → up_to key i h ≡ Some v → P h v) → (h : ℕ) (v : W) → up_to key (i + 1) h ≡ Some v → P h v
    each P new old h v e = ⊎_elim
        (λ (s : h ≡ i). let same : v ≡ x = let a = ap (up_to key (i + 1)) s in let b = new_here in cc in rw (s, same) new)
        (λ (ne : h ≡ i → ⊥). old h v (sym (other key i h ne) ∙ e))
        (cases_eq h i)

    kept : (q : ℕ × W) → Picked le tie (up_to key i) (Some q) → le x q.1 ≡ true → (le q.1 x ≡ true → Before tie q.0 i) → Picked le tie (up_to key (i + 1)) (Some q)
    kept q p less first =
        let low = entry_under key i q.0 q.1 p.0.here in (
          record { group = p.0.group; here = other key i q.0 (λ e. omega arith) ∙ p.0.here; most = each (λ h v. le v q.1 ≡ true) less p.0.most },
          each (λ h v. le q.1 v ≡ true → Before tie q.0 h) first p.1,
        )

    replaced : (q : ℕ × W) → Picked le tie (up_to key i) (Some q) → le q.1 x ≡ true → ((h : ℕ) (v : W) → h < i → le v q.1 ≡ true → le x v ≡ true → Before tie i h) → Before tie i i → Picked le tie (up_to key (i + 1)) (Some (i, x))
    replaced q p more first self = (
      record { group = within; here = new_here; most = each (λ h v. le v x ≡ true) (le_self laws x) (λ h v e. laws.trans v q.1 x (p.0.most h v e) more) },
      each (λ h v. le x v ≡ true → Before tie i h) (λ _. self) (λ h v e as-heavy. first h v (entry_under key i h v e) (p.0.most h v e) as-heavy),
    )

    pub pick_first : Picked le tie (up_to key i) None → Before tie i i → Picked le tie (up_to key (i + 1)) (Some (i, x))
    pick_first none self = (
      record { group = within; here = new_here; most = each (λ h v. le v x ≡ true) (le_self laws x) (λ h v e. clash e (none h)) },
      each (λ h v. le x v ≡ true → Before tie i h) (λ _. self) (λ h v e. clash e (none h)),
    )

not_true : (b : Bool) → cond b false true ≡ true → b ≡ false
not_true true e = true_or e refl
not_true false e = refl

not_false : (b : Bool) → cond b false true ≡ false → b ≡ true
not_false true e = refl
not_false false e = true_or refl e

module _ {W : Type 0} (le : W → W → Bool) (laws : Ordered le) (key : ℕ → Option W) (i : ℕ) (within : i < 64) (x : W) (is : key i ≡ Some x) where
  pub pick_keep : (tie : Tie) (o : Option (ℕ × W)) → Picked le tie (up_to key i) o → prefers le tie o x ≡ false → Picked le tie (up_to key (i + 1)) o
  pick_keep tie None p e = true_or refl e
  pick_keep Lowest (Some q) p e =
      let low = entry_under key i q.0 q.1 p.0.here in
      kept le laws Lowest key i within x is q p (not_false (le x q.1) e) (λ _. omega arith)
  pick_keep Highest (Some q) p e = kept le laws Highest key i within x is q p (le_flip laws q.1 x e) (λ h. true_or h e)

  pub pick_new : (tie : Tie) (o : Option (ℕ × W)) → Picked le tie (up_to key i) o → prefers le tie o x ≡ true → Picked le tie (up_to key (i + 1)) (Some (i, x))
  pick_new Lowest None p e = pick_first le laws Lowest key i within x is p (omega arith)
  pick_new Highest None p e = pick_first le laws Highest key i within x is p (omega arith)
  pick_new Lowest (Some q) p e =
      let less = not_true (le x q.1) e in
      replaced le laws Lowest key i within x is q p (le_flip laws x q.1 less) (λ h v _ below as-heavy. true_or as-heavy (le_above laws x q.1 v less below)) (omega arith)
  pick_new Highest (Some q) p e = replaced le laws Highest key i within x is q p e (λ h v low _ _. omega arith) (omega arith)
