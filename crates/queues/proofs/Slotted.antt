-- What slots hold after a write, and below a reach.
use Rattle.std.proofs.Common.{◌≡◌, ℕ, zero, suc, ◌+◌, ◌<◌, ◌≤◌, true, false, cond, eqb, ltb, List, [], ◌∷◌, ◌++◌, length, replicate, get_or, take, set, is_some, Some, None, Option, sym, refl, ap, ◌∙◌, ⊎_elim, arith}
use lib.Dec.{eqb-zero-suc, eqb-suc-zero, eqb-suc-suc}
use Rattle.std.proofs.lemmas.Bool.{cases_eq, cases_lt, cond-true, cond-false, lt-ltb, le-ltb}
use Rattle.std.proofs.lemmas.Bool.Decides.{nat_tests}
use Rattle.std.proofs.lemmas.List.{get_or-take, length-take-le}
use Rattle.std.specs.Map.{update}
use Rattle.std.proofs.lemmas.Map.{update_here, update_apart}
use Rattle.queues.specs.declared.list.Slot.{Slot}
use Rattle.queues.specs.Keys.{Becomes, Unchanged}
use Rattle.queues.specs.Slots.{keyed, held, waiting}

pub keyed_at : {W : Type 0} (ss : List (Slot W)) (i : ℕ) (s : Slot W) → i < length ss → s ≡ get_or ss i s → keyed ss i ≡ held s
keyed_at [] i s h e = absurd (omega arith)
keyed_at (x ∷ ss) zero s h e = ap held (sym e)
keyed_at (x ∷ ss) (suc i) s h e = keyed_at ss i s (omega arith) e

pub keyed_set : {W : Type 0} (ss : List (Slot W)) (g q : ℕ) (s : Slot W) → g < length ss → keyed (set ss g s) q ≡ update eqb (keyed ss) g (held s) q
keyed_set [] g q s h = absurd (omega arith)
keyed_set (x ∷ ss) zero zero s h = refl
keyed_set (x ∷ ss) zero (suc q) s h = rw (eqb-zero-suc q)
keyed_set (x ∷ ss) (suc g) zero s h = rw (eqb-suc-zero g)
keyed_set (x ∷ ss) (suc g) (suc q) s h = rw (eqb-suc-suc g q) (keyed_set ss g q s (omega arith))

-- an update that says the same
pub update_same : {X : Type 0} (f : ℕ → Option X) (g q : ℕ) (x : Option X) → f g ≡ x → update eqb f g x q ≡ f q
update_same f g q x e = ⊎_elim (λ (s : q ≡ g). rw s (update_here f g x ∙ sym e)) (λ (ne : q ≡ g → ⊥). update_apart f g x q ne) (cases_eq q g)

module _ {W : Type 0} (ss : List (Slot W)) where
  pub waiting_below : (reach g : ℕ) → g < reach → waiting ss reach g ≡ keyed ss g
  waiting_below reach g h = cond-true (ltb g reach) (keyed ss g) None (lt-ltb g reach h)

  pub waiting_past : (reach g : ℕ) → reach ≤ g → waiting ss reach g ≡ None
  waiting_past reach g h = cond-false (ltb g reach) (keyed ss g) None (le-ltb g reach h)

  -- one slot more counts
  pub waiting_more : (i : ℕ) → Becomes (waiting ss i) (waiting ss (i + 1)) i (keyed ss i)
  waiting_more i q = ⊎_elim
      (λ (s : q ≡ i). rw s (waiting_below (i + 1) i (omega arith) ∙ sym (update_here (waiting ss i) i (keyed ss i))))
      (λ (ne : q ≡ i → ⊥).
      let same : ltb q (i + 1) ≡ ltb q i = grind (arith, nat_tests) in
      ap (λ b. cond b (keyed ss q) None) same ∙ sym (update_apart (waiting ss i) i (keyed ss i) q ne))
      (cases_eq q i)

  -- one slot more counts, which a look through the first slots has come to
  pub waiting_next : (reach i : ℕ) (s : Slot W) (o : Option W) → reach ≤ length ss → i < length (take reach ss) → s ≡ get_or (take reach ss) i s → held s ≡ o → Becomes (waiting ss i) (waiting ss (i + 1)) i o
  waiting_next reach i s o room lt is e =
      let size = length-take-le reach ss room in
      let at : s ≡ get_or ss i s = is ∙ get_or-take reach ss i s (omega arith) in
      rw (keyed_at ss i s (omega arith) at ∙ e) at (waiting_more i)

  -- a slot that counts is written
  pub waiting_set : (reach g : ℕ) (s : Slot W) → g < reach → g < length ss → Becomes (waiting ss reach) (waiting (set ss g s) reach) g (held s)
  waiting_set reach g s h lt q = ⊎_elim
      (λ (same : q ≡ g). rw same (cond-true (ltb g reach) (keyed (set ss g s) g) None (lt-ltb g reach h) ∙ keyed_set ss g g s lt ∙ update_here (keyed ss) g (held s) ∙ sym (update_here (waiting ss reach) g (held s))))
      (λ (ne : q ≡ g → ⊥). ap (λ o. cond (ltb q reach) o None) (keyed_set ss g q s lt ∙ update_apart (keyed ss) g (held s) q ne) ∙ sym (update_apart (waiting ss reach) g (held s) q ne))
      (cases_eq q g)

  -- one slot more counts and is emptied
  pub emptied_more : (old : List (Slot W)) (from i : ℕ) (s : Slot W) → held s ≡ None → from ≤ i → i < length ss → Unchanged (waiting old from) (waiting ss i) → Unchanged (waiting old from) (waiting (set ss i s) (i + 1))
  emptied_more old from i s bare le lt same q = ⊎_elim
      (λ (e : q ≡ i). rw e (cond-true (ltb i (i + 1)) (keyed (set ss i s) i) None (lt-ltb i (i + 1) (omega arith)) ∙ keyed_set ss i i s lt ∙ update_here (keyed ss) i (held s) ∙ bare ∙ sym (cond-false (ltb i from) (keyed old i) None (le-ltb i from le))))
      (λ (ne : q ≡ i → ⊥).
      let up : ltb q (i + 1) ≡ ltb q i = grind (arith, nat_tests) in
      ap (λ b. cond b (keyed (set ss i s) q) None) up ∙ ap (λ o. cond (ltb q i) o None) (keyed_set ss i q s lt ∙ update_apart (keyed ss) i (held s) q ne) ∙ same q)
      (cases_eq q i)

-- a group that waits stands below the reach
pub waiting_lt : {W : Type 0} (ss : List (Slot W)) (reach g : ℕ) (v : W) → waiting ss reach g ≡ Some v → g < reach
waiting_lt ss reach g v e = ⊎_elim (λ (l : g < reach). l) (λ (m : reach ≤ g). let n = waiting_past ss reach g m in let z : ◌≡◌ {A = ℕ} 0 1 = cc in absurd (omega arith)) (cases_lt g reach)

pub none_left : {W : Type 0} (o : Option W) → is_some o ≡ false → o ≡ None
none_left None e = refl
none_left (Some v) e = let z : true ≡ false = e in absurd (grind arith)

-- what the slots from a on hold, k of which were emptied
emptied : {W : Type 0} (a k q : ℕ) (ss rest : List (Slot W)) (s : Slot W) → held s ≡ None → a ≤ length ss → a ≤ q → q < a + k → keyed (take a ss ++ (replicate k s ++ rest)) q ≡ None
emptied zero zero q ss rest s bare room from to = absurd (omega arith)
emptied zero (suc k) zero ss rest s bare room from to = bare
emptied zero (suc k) (suc q) ss rest s bare room from to = emptied zero k q ss rest s bare room (omega arith) (omega arith)
emptied (suc a) k q [] rest s bare room from to = absurd (omega arith)
emptied (suc a) k zero (x ∷ ss) rest s bare room from to = absurd (omega arith)
emptied (suc a) k (suc q) (x ∷ ss) rest s bare room from to = emptied a k q ss rest s bare (omega arith) (omega arith) (omega arith)

kept_below : {W : Type 0} (a q : ℕ) (ss rest : List (Slot W)) → a ≤ length ss → q < a → keyed (take a ss ++ rest) q ≡ keyed ss q
kept_below zero q ss rest room lt = absurd (omega arith)
kept_below (suc a) q [] rest room lt = absurd (omega arith)
kept_below (suc a) zero (x ∷ ss) rest room lt = refl
kept_below (suc a) (suc q) (x ∷ ss) rest room lt = kept_below a q ss rest (omega arith) (omega arith)

-- so many more slots count, and each of them is empty
pub emptied_past : {W : Type 0} (ss rest : List (Slot W)) (from k to : ℕ) (s : Slot W) → held s ≡ None → from ≤ length ss → from + k ≡ to → Unchanged (waiting ss from) (waiting (take from ss ++ (replicate k s ++ rest)) to)
emptied_past ss rest from k to s bare room end q = ⊎_elim
    (λ (l : q < from). waiting_below _ to q (omega arith) ∙ kept_below from q ss _ room l ∙ sym (waiting_below ss from q l))
    (λ (m : from ≤ q). ⊎_elim
    (λ (l : q < to). waiting_below _ to q l ∙ emptied from k q ss rest s bare room m (omega arith))
    (λ (far : to ≤ q). waiting_past _ to q far)
    (cases_lt q to)
    ∙ sym (waiting_past ss from q m))
    (cases_lt q from)

-- the same update of the same entries
pub update_ap : {X : Type 0} (f h : ℕ → Option X) (g q : ℕ) (x : Option X) → ((k : ℕ) → f k ≡ h k) → update eqb f g x q ≡ update eqb h g x q
update_ap f h g q x same = ap (λ y. cond (eqb g q) x y) (same q)
