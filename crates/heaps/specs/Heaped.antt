-- What the entries of a heap and the table of their places mean.
use Rattle.std.specs.Prelude.{◌≡◌, ℕ, ◌<◌, ◌≤◌, Bool, true, cond, List, length, Some, None, Option, ◌==◌, nat_lt, slice_index}
use Rattle.std.specs.List.{slice_get}
use Rattle.std.proofs.Common.{eqb, ap, ◌∙◌, ⊎_elim, arith}
use Rattle.std.proofs.lemmas.Bool.{cases_lt, cond-true, cond-false, lt-ltb, le-ltb, ne_eqb}
use Rattle.heaps.specs.declared.entry.HeapEntry.{HeapEntry}
use Rattle.heaps.specs.declared.heap.HeapQueue.{HeapQueue}
use Rattle.queues.specs.Keys.{Empty, Heaviest}
use Rattle.heaps.specs.Entries.{before}
use Rattle.heaps.specs.Tree.{InOrder}

-- the place of a group by the table
abbrev pub placed : List ℕ → ℕ → ℕ
placed places g = slice_index places g

-- the key of an entry, if it is that of the group g
abbrev pub key_for : {W : Type 0} → Option (HeapEntry W) → ℕ → Option W
key_for None g = None
key_for (Some e) g = cond (e.group == g) (Some e.key) None

-- the key of a group: it waits where the entry at its place is its own
abbrev pub key_under : {W : Type 0} → (ℕ → Option (HeapEntry W)) → (ℕ → ℕ) → ℕ → ℕ → Option W
key_under at place count g = cond (nat_lt (place g) count) (key_for (at (place g)) g) None

-- the entry at i, to which the table sends its group
pub record Here {W : Type 0} (at : ℕ → Option (HeapEntry W)) (place : ℕ → ℕ) (i : ℕ) : Type 0 where
  pub entry : HeapEntry W
  pub is : at i ≡ Some entry
  pub group : entry.group < 64
  pub back : place entry.group ≡ i

-- table and entries agree
pub record Agrees {W : Type 0} (at : ℕ → Option (HeapEntry W)) (place : ℕ → ℕ) (count : ℕ) : Type 0 where
  pub fits : count ≤ 64
  pub here : (i : ℕ) → i < count → Here at place i

-- of a whole queue: what stands at a place, and the key of a group
abbrev pub standing : {W : Type 0} → HeapQueue W → ℕ → Option (HeapEntry W)
standing q = slice_get q.entries.now

abbrev pub heap_key : {W : Type 0} → HeapQueue W → ℕ → Option W
heap_key q = key_under (standing q) (placed q.places) q.count

-- there is a place for each group, and table and entries agree
pub record Kept {W : Type 0} (q : HeapQueue W) : Type 0 where
  pub room : 64 ≤ length q.entries.now
  pub table : length q.places ≡ 64
  pub agrees : Agrees (standing q) (placed q.places) q.count

-- no group past the last one waits
pub key_within : {W : Type 0} (q : HeapQueue W) (g : ℕ) → Kept q → 64 ≤ g → heap_key q g ≡ None
key_within q g kept far =
    let p = placed q.places g in
    ⊎_elim
    (λ (lt : p < q.count).
    let h = kept.agrees.here p lt in
    let low = h.group in
    cond-true (nat_lt p q.count) (key_for (standing q p) g) None (lt-ltb p q.count lt)
    ∙ ap (λ o. key_for o g) h.is
    ∙ cond-false (eqb h.entry.group g) (Some h.entry.key) None (ne_eqb h.entry.group g (λ e. omega arith)))
    (λ (m : q.count ≤ p). cond-false (nat_lt p q.count) (key_for (standing q p) g) None (le-ltb p q.count m))
    (cases_lt p q.count)

-- what makes a heap sound: that, and the heap's order
pub record Heaped {W : Type 0} (le : W → W → Bool) (q : HeapQueue W) : Type 0 where
  pub kept : Kept q
  pub order : InOrder (before le) (standing q) q.count

-- the place of a group that waits
abbrev pub Finds : {W : Type 0} → HeapQueue W → ℕ → Option ℕ → Type 0
Finds q g None = heap_key q g ≡ None
Finds {W} q g (Some i) = (i < q.count) × ((e : HeapEntry W) × (standing q i ≡ Some e) × (e.group ≡ g) × (heap_key q g ≡ Some e.key))

-- no group before g is as heavy as k
abbrev pub Lowest : {W : Type 0} → (W → W → Bool) → (ℕ → Option W) → ℕ → W → Type 0
Lowest {W} le key g k = (h : ℕ) (v : W) → key h ≡ Some v → le k v ≡ true → g ≤ h

-- the entry at the top is a heaviest one, of the lowest group, and there is none exactly where no group waits
abbrev pub Top : {W : Type 0} → (W → W → Bool) → HeapQueue W → Option (HeapEntry W) → Type 0
Top le q None = Empty (heap_key q)
Top le q (Some e) = (0 < q.count) × (standing q 0 ≡ Some e) × Heaviest le (heap_key q) e.group e.key × Lowest le (heap_key q) e.group e.key
