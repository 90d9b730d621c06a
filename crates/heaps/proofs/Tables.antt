-- What the table and the entries say of keys, and what a change of both keeps.
use Rattle.std.proofs.Common.{◌≡◌, ℕ, ◌<◌, ◌≤◌, eqb, ltb, ◌⊎◌, Some, None, Option, sym, refl, ap, ◌∙◌, inl, inr, ⊎_elim, arith}
use Rattle.std.proofs.lemmas.Bool.{cases_eq, cases_lt, cond-true, cond-false, eq-eqb, ne_eqb, lt-ltb, le-ltb}
use Rattle.std.proofs.lemmas.Map.{update_here, update_apart}
use Rattle.queues.specs.Keys.{Unchanged, Becomes}
use Rattle.heaps.specs.declared.entry.HeapEntry.{HeapEntry}
use Rattle.heaps.specs.Tree.{Swapped}
use Rattle.heaps.specs.Heaped.{key_for, key_under, Agrees}
use Rattle.queues.proofs.Looking.{clash}
use Rattle.heaps.proofs.Order.{one}

-- the place of a waiting group, with its entry
pub record Spot {W : Type 0} (at : ℕ → Option (HeapEntry W)) (n g : ℕ) : Type 0 where
  pub place : ℕ
  pub entry : HeapEntry W
  pub under : place < n
  pub is : at place ≡ Some entry
  pub own : entry.group ≡ g

module _ {W : Type 0} (at : ℕ → Option (HeapEntry W)) (place : ℕ → ℕ) (n : ℕ) where
  pub key_past : (g : ℕ) → n ≤ place g → key_under at place n g ≡ None
  key_past g h = cond-false (ltb (place g) n) _ None (le-ltb (place g) n h)

  pub key_below : (g : ℕ) → place g < n → key_under at place n g ≡ key_for (at (place g)) g
  key_below g h = cond-true (ltb (place g) n) _ None (lt-ltb (place g) n h)

  pub key_other : (g : ℕ) (e : HeapEntry W) → place g < n → at (place g) ≡ Some e → (e.group ≡ g → ⊥) → key_under at place n g ≡ None
  key_other g e lt is ne = key_below g lt ∙ ap (λ o. key_for o g) is ∙ cond-false (eqb e.group g) (Some e.key) None (ne_eqb e.group g ne)

  -- the key of a group whose entry stands at i
  pub key_in : Agrees at place n → (i g : ℕ) (e : HeapEntry W) → i < n → at i ≡ Some e → e.group ≡ g → key_under at place n g ≡ Some e.key
  key_in agrees i g e lt is own =
      let h = agrees.here i lt in
      let same : h.entry ≡ e = one h.is is in
      let back : place g ≡ i = ap place (sym own) ∙ ap (λ (x : HeapEntry W). place x.group) (sym same) ∙ h.back in
      key_below g (omega arith) ∙ ap (λ o. key_for o g) (ap at back ∙ is) ∙ cond-true (eqb e.group g) (Some e.key) None (eq-eqb e.group g own)

  spot_at : (g : ℕ) (o : Option (HeapEntry W)) → place g < n → at (place g) ≡ o → Spot at n g ⊎ (key_under at place n g ≡ None)
  spot_at g None lt e = inr (key_below g lt ∙ ap (λ o. key_for o g) e)
  spot_at g (Some x) lt e = ⊎_elim
      (λ (own : x.group ≡ g). inl (record { place = place g; entry = x; under = lt; is = e; own = own }))
      (λ (ne : x.group ≡ g → ⊥). inr (key_other g x lt e ne))
      (cases_eq x.group g)

  -- a group has its place, or does not wait
  pub spot : (g : ℕ) → Spot at n g ⊎ (key_under at place n g ≡ None)
  spot g = ⊎_elim (λ (l : place g < n). spot_at g (at (place g)) l refl) (λ (m : n ≤ place g). inr (key_past g m)) (cases_lt (place g) n)

-- each entry of g has a place in the other heap too
abbrev pub Goes : {W : Type 0} → (ℕ → Option (HeapEntry W)) → ℕ → (ℕ → Option (HeapEntry W)) → ℕ → ℕ → Type 0
Goes {W} at n at' n' g = (i : ℕ) (e : HeapEntry W) → i < n → at i ≡ Some e → e.group ≡ g → (j : ℕ) × (j < n') × (at' j ≡ Some e)

module _ {W : Type 0} (at : ℕ → Option (HeapEntry W)) (place : ℕ → ℕ) (n : ℕ) (at' : ℕ → Option (HeapEntry W)) (place' : ℕ → ℕ) (n' : ℕ) (was : Agrees at place n) (is : Agrees at' place' n') where
  pub key_same : (g : ℕ) → Goes at n at' n' g → Goes at' n' at n g → key_under at' place' n' g ≡ key_under at place n g
  key_same g to from = ⊎_elim
      (λ (s : Spot at n g).
      let t = to s.place s.entry s.under s.is s.own in
      key_in at' place' n' is t.0 g s.entry t.1 t.2 s.own ∙ sym (key_in at place n was s.place g s.entry s.under s.is s.own))
      (λ (none : key_under at place n g ≡ None). ⊎_elim
      (λ (s : Spot at' n' g).
      let t = from s.place s.entry s.under s.is s.own in
      clash (key_in at place n was t.0 g s.entry t.1 t.2 s.own) none)
      (λ (gone : key_under at' place' n' g ≡ None). gone ∙ sym none)
      (spot at' place' n' g))
      (spot at place n g)

  pub key_becomes : (g : ℕ) (x : Option W) → key_under at' place' n' g ≡ x → ((q : ℕ) → (q ≡ g → ⊥) → Goes at n at' n' q) → ((q : ℕ) → (q ≡ g → ⊥) → Goes at' n' at n q) → Becomes (key_under at place n) (key_under at' place' n') g x
  key_becomes g x here to from q = ⊎_elim
      (λ (e : q ≡ g). rw e (here ∙ sym (update_here (key_under at place n) g x)))
      (λ (ne : q ≡ g → ⊥). key_same q (to q ne) (from q ne) ∙ sym (update_apart (key_under at place n) g x q ne))
      (cases_eq q g)

-- a swap takes each entry along
swap_goes : {W : Type 0} (at at' : ℕ → Option (HeapEntry W)) (n i j g : ℕ) → i < n → j < n → Swapped at at' i j → Goes at n at' n g
swap_goes at at' n i j g li lj s k e lt is own = ⊎_elim
    (λ (ki : k ≡ i). (j, lj, s.right ∙ ap at (sym ki) ∙ is))
    (λ (nki : k ≡ i → ⊥). ⊎_elim
    (λ (kj : k ≡ j). (i, li, s.left ∙ ap at (sym kj) ∙ is))
    (λ (nkj : k ≡ j → ⊥). (k, lt, s.rest k nki nkj ∙ is))
    (cases_eq k j))
    (cases_eq k i)

pub swap_keys : {W : Type 0} (at at' : ℕ → Option (HeapEntry W)) (place place' : ℕ → ℕ) (n i j : ℕ) → i < n → j < n → Agrees at place n → Agrees at' place' n → Swapped at at' i j → Unchanged (key_under at place n) (key_under at' place' n)
swap_keys at at' place place' n i j li lj was is s g =
    key_same at place n at' place' n was is g (swap_goes at at' n i j g li lj s)
    (swap_goes at' at n i j g li lj (record { left = sym s.right; right = sym s.left; rest = λ k a b. sym (s.rest k a b) }))
