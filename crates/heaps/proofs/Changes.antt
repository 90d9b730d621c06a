-- What a swap, a new entry, a new key and a removal do to table, entries and keys.
use Rattle.std.proofs.Common.{◌≡◌, ℕ, ◌+◌, ◌<◌, ◌≤◌, cond, eqb, Some, None, Option, sym, refl, ap, ◌∙◌, ⊎_elim, arith}
use Rattle.std.proofs.lemmas.Bool.{cases_eq, cases_lt, cond-true, cond-false, eq-eqb, ne_eqb}
use Rattle.std.specs.Map.{update}
use Rattle.std.proofs.lemmas.Map.{update_here, update_apart}
use Rattle.queues.specs.Keys.{Becomes}
use Rattle.heaps.specs.declared.entry.HeapEntry.{HeapEntry}
use Rattle.heaps.specs.Tree.{Swapped}
use Rattle.heaps.specs.Heaped.{key_under, Here, Agrees}
use Rattle.queues.proofs.Looking.{clash}
use Rattle.heaps.proofs.Order.{one}
use Rattle.heaps.proofs.Pigeons.{pigeons}
use Rattle.heaps.proofs.Tables.{Spot, spot, key_in, key_past, key_becomes}

-- the table after a write
abbrev pub Sends : {W : Type 0} → (ℕ → ℕ) → (ℕ → ℕ) → HeapEntry W → ℕ → Type 0
Sends place place' e k = (g : ℕ) → place' g ≡ cond (eqb g e.group) k (place g)

module _ {W : Type 0} (place place' : ℕ → ℕ) (e : HeapEntry W) (k : ℕ) (sends : Sends place place' e k) where
  sent : place' e.group ≡ k
  sent = sends e.group ∙ cond-true (eqb e.group e.group) k (place e.group) (eq-eqb e.group e.group refl)

  unsent : (g : ℕ) → (g ≡ e.group → ⊥) → place' g ≡ place g
  unsent g ne = sends g ∙ cond-false (eqb g e.group) k (place g) (ne_eqb g e.group ne)

-- what agreement says of an entry
pub agrees_at : {W : Type 0} (at : ℕ → Option (HeapEntry W)) (place : ℕ → ℕ) (n : ℕ) → Agrees at place n → (i : ℕ) (e : HeapEntry W) → i < n → at i ≡ Some e → (e.group < 64) × (place e.group ≡ i)
agrees_at {W} at place n agrees i e lt is =
    let h = agrees.here i lt in
    let same : h.entry ≡ e = one h.is is in
    (rw same at h.group, ap (λ (x : HeapEntry W). place x.group) (sym same) ∙ h.back)

module _ {W : Type 0} (at at₁ at₂ : ℕ → Option (HeapEntry W)) (place place₁ place₂ : ℕ → ℕ) (n i j : ℕ) (a b : HeapEntry W) (was : Agrees at place n) (li : i < n) (lj : j < n) (ia : at i ≡ Some a) (jb : at j ≡ Some b) (w₁ : Becomes at at₁ i (Some b)) (s₁ : Sends place place₁ b i) (w₂ : Becomes at₁ at₂ j (Some a)) (s₂ : Sends place₁ place₂ a j) where
  at_j : at₂ j ≡ Some a
  at_j = w₂ j ∙ update_here at₁ j (Some a)

  at_i : (i ≡ j → ⊥) → at₂ i ≡ Some b
  at_i ne = w₂ i ∙ update_apart at₁ j (Some a) i ne ∙ w₁ i ∙ update_here at i (Some b)

  at_rest : (k : ℕ) → (k ≡ i → ⊥) → (k ≡ j → ⊥) → at₂ k ≡ at k
  at_rest k ni nj = w₂ k ∙ update_apart at₁ j (Some a) k nj ∙ w₁ k ∙ update_apart at i (Some b) k ni

  pub swap_done : Swapped at at₂ i j
  swap_done = record {
    left = ⊎_elim (λ (e : i ≡ j). ap at₂ e ∙ at_j ∙ sym ia ∙ ap at e) (λ (ne : i ≡ j → ⊥). at_i ne ∙ sym jb) (cases_eq i j);
    right = at_j ∙ sym ia;
    rest = at_rest;
  }

  pub swap_agrees : Agrees at₂ place₂ n
  swap_agrees = let ha = agrees_at at place n was i a li ia in let hb = agrees_at at place n was j b lj jb in record {
    fits = was.fits;
    here = λ k lt. ⊎_elim
        (λ (kj : k ≡ j). record { entry = a; is = ap at₂ kj ∙ at_j; group = ha.0; back = sent place₁ place₂ a j s₂ ∙ sym kj })
        (λ (nkj : k ≡ j → ⊥). ⊎_elim
        (λ (ki : k ≡ i).
        let ne : b.group ≡ a.group → ⊥ = λ e. nkj (ki ∙ sym ha.1 ∙ ap place (sym e) ∙ hb.1) in
        record { entry = b; is = ap at₂ ki ∙ at_i (λ e. nkj (ki ∙ e)); group = hb.0; back = unsent place₁ place₂ a j s₂ b.group ne ∙ sent place place₁ b i s₁ ∙ sym ki })
        (λ (nki : k ≡ i → ⊥).
        let h = was.here k lt in
        let na : h.entry.group ≡ a.group → ⊥ = λ e. nki (sym h.back ∙ ap place e ∙ ha.1) in
        let nb : h.entry.group ≡ b.group → ⊥ = λ e. nkj (sym h.back ∙ ap place e ∙ hb.1) in
        record { entry = h.entry; is = at_rest k nki nkj ∙ h.is; group = h.group; back = unsent place₁ place₂ a j s₂ h.entry.group na ∙ unsent place place₁ b i s₁ h.entry.group nb ∙ h.back })
        (cases_eq k i))
        (cases_eq k j);
  }

-- entries that the table tells apart are at most as many as the groups
abbrev group_at : {W : Type 0} → Option (HeapEntry W) → ℕ
group_at None = 0
group_at (Some e) = e.group

all_fit : {W : Type 0} (at : ℕ → Option (HeapEntry W)) (place : ℕ → ℕ) (n : ℕ) → ((i : ℕ) → i < n → Here at place i) → n ≤ 64
all_fit at place n here = pigeons n 64 (λ i. group_at (at i))
    (λ i lt. let h = here i lt in rw h.is h.group)
    (λ i j li lj e.
    let h = here i li in
    let k = here j lj in
    sym h.back ∙ ap (λ o. place (group_at o)) (sym h.is) ∙ ap place e ∙ ap (λ o. place (group_at o)) k.is ∙ k.back)

module _ {W : Type 0} (at at' : ℕ → Option (HeapEntry W)) (place place' : ℕ → ℕ) (n : ℕ) (e : HeapEntry W) (was : Agrees at place n) (low : e.group < 64) (none : key_under at place n e.group ≡ None) (w : Becomes at at' n (Some e)) (s : Sends place place' e n) where
  push_other : (k : ℕ) → k < n → at' k ≡ at k
  push_other k lt = w k ∙ update_apart at n (Some e) k (λ z. omega arith)

  push_here : (i : ℕ) → i < n + 1 → Here at' place' i
  push_here i lt = ⊎_elim
      (λ (same : i ≡ n). record { entry = e; is = ap at' same ∙ w n ∙ update_here at n (Some e); group = low; back = sent place place' e n s ∙ sym same })
      (λ (ne : i ≡ n → ⊥).
      let under : i < n = ⊎_elim (λ (l : i < n). l) (λ (m : n ≤ i). absurd (ne (omega arith))) (cases_lt i n) in
      let h = was.here i under in
      let apart : h.entry.group ≡ e.group → ⊥ = λ z. clash (key_in at place n was i e.group h.entry under h.is z) none in
      record { entry = h.entry; is = push_other i under ∙ h.is; group = h.group; back = unsent place place' e n s h.entry.group apart ∙ h.back })
      (cases_eq i n)

  pub push_agrees : Agrees at' place' (n + 1)
  push_agrees = record { fits = all_fit at' place' (n + 1) push_here; here = push_here }

  pub push_keys : Becomes (key_under at place n) (key_under at' place' (n + 1)) e.group (Some e.key)
  push_keys = key_becomes at place n at' place' (n + 1) was push_agrees e.group (Some e.key)
      (key_in at' place' (n + 1) push_agrees n e.group e (omega arith) (w n ∙ update_here at n (Some e)) refl)
      (λ q ne i x lt is own. (i, omega arith, push_other i lt ∙ is))
      (λ q ne i x lt is own. ⊎_elim
      (λ (same : i ≡ n). let z : x ≡ e = one is (ap at' same ∙ w n ∙ update_here at n (Some e)) in absurd (ne (sym own ∙ ap (λ (y : HeapEntry W). y.group) z)))
      (λ (np : i ≡ n → ⊥).
      let under : i < n = ⊎_elim (λ (l : i < n). l) (λ (m : n ≤ i). absurd (np (omega arith))) (cases_lt i n) in
      (i, under, sym (push_other i under) ∙ is))
      (cases_eq i n))

-- where a group does not wait, there is room for an entry
pub room_left : {W : Type 0} (at : ℕ → Option (HeapEntry W)) (place : ℕ → ℕ) (n : ℕ) (e : HeapEntry W) → Agrees at place n → e.group < 64 → key_under at place n e.group ≡ None → n < 64
room_left at place n e was low none =
    let full = push_agrees at (update eqb at n (Some e)) place (λ g. cond (eqb g e.group) n (place g)) n e was low none (λ q. refl) (λ g. refl) in
    let fits = full.fits in
    omega arith

module _ {W : Type 0} (at at' : ℕ → Option (HeapEntry W)) (place place' : ℕ → ℕ) (n i : ℕ) (e e' : HeapEntry W) (was : Agrees at place n) (lt : i < n) (is : at i ≡ Some e) (own : e'.group ≡ e.group) (w : Becomes at at' i (Some e')) (s : Sends place place' e' i) where
  raise_other : (k : ℕ) → (k ≡ i → ⊥) → at' k ≡ at k
  raise_other k ne = w k ∙ update_apart at i (Some e') k ne

  raise_there : at' i ≡ Some e'
  raise_there = w i ∙ update_here at i (Some e')

  pub raise_agrees : Agrees at' place' n
  raise_agrees = let h = agrees_at at place n was i e lt is in record {
    fits = was.fits;
    here = λ k under. ⊎_elim
        (λ (same : k ≡ i). record { entry = e'; is = ap at' same ∙ raise_there; group = rw own h.0; back = sent place place' e' i s ∙ sym same })
        (λ (ne : k ≡ i → ⊥).
        let g = was.here k under in
        let apart : g.entry.group ≡ e'.group → ⊥ = λ z. ne (sym g.back ∙ ap place (z ∙ own) ∙ h.1) in
        record { entry = g.entry; is = raise_other k ne ∙ g.is; group = g.group; back = unsent place place' e' i s g.entry.group apart ∙ g.back })
        (cases_eq k i);
  }

  pub raise_keys : Becomes (key_under at place n) (key_under at' place' n) e.group (Some e'.key)
  raise_keys = key_becomes at place n at' place' n was raise_agrees e.group (Some e'.key)
      (key_in at' place' n raise_agrees i e.group e' lt raise_there own)
      (λ q ne k x under here mine. ⊎_elim
      (λ (same : k ≡ i). let z : x ≡ e = one here (ap at same ∙ is) in absurd (ne (sym mine ∙ ap (λ (y : HeapEntry W). y.group) z)))
      (λ (nk : k ≡ i → ⊥). (k, under, raise_other k nk ∙ here))
      (cases_eq k i))
      (λ q ne k x under here mine. ⊎_elim
      (λ (same : k ≡ i). let z : x ≡ e' = one here (ap at' same ∙ raise_there) in absurd (ne (sym mine ∙ ap (λ (y : HeapEntry W). y.group) z ∙ own)))
      (λ (nk : k ≡ i → ⊥). (k, under, sym (raise_other k nk) ∙ here))
      (cases_eq k i))

module _ {W : Type 0} (at : ℕ → Option (HeapEntry W)) (place : ℕ → ℕ) (n m : ℕ) (was : Agrees at place n) (less : n ≡ m + 1) where
  pub pop_agrees : Agrees at place m
  pop_agrees = let f = was.fits in record { fits = omega arith; here = λ i lt. was.here i (omega arith) }

  pub pop_keys : (e : HeapEntry W) → at m ≡ Some e → Becomes (key_under at place n) (key_under at place m) e.group None
  pop_keys e is =
      let back = (agrees_at at place n was m e (omega arith) is).1 in
      key_becomes at place n at place m was pop_agrees e.group None
      (key_past at place m e.group (omega arith))
      (λ q ne i x lt here own. ⊎_elim
      (λ (same : i ≡ m). let z : x ≡ e = one here (ap at same ∙ is) in absurd (ne (sym own ∙ ap (λ (y : HeapEntry W). y.group) z)))
      (λ (np : i ≡ m → ⊥). (i, ⊎_elim (λ (l : i < m). l) (λ (k : m ≤ i). absurd (np (omega arith))) (cases_lt i m), here))
      (cases_eq i m))
      (λ q ne i x lt here own. (i, omega arith, here))

-- no group from 64 on waits
pub key_far : {W : Type 0} (at : ℕ → Option (HeapEntry W)) (place : ℕ → ℕ) (n g : ℕ) → Agrees at place n → 64 ≤ g → key_under at place n g ≡ None
key_far at place n g was far = ⊎_elim
    (λ (s : Spot at n g). let low = (agrees_at at place n was s.place s.entry s.under s.is).0 in let own = s.own in absurd (omega arith))
    (λ none. none)
    (spot at place n g)
