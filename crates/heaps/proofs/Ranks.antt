-- The order of entries, heavier first and then the lower group, is one: what need not come before what need not come before a third need not come before that.
use Rattle.std.proofs.Common.{◌≡◌, ℕ, ◌+◌, ◌<◌, ◌≤◌, Bool, true, false, cond, ltb, refl, ⊎_elim, arith}
use Rattle.std.proofs.lemmas.Bool.{ltb-true, ltb-false, le-ltb, cases_Bool}
use Rattle.weights.specs.Laws.{Laws, limit}
use Rattle.queues.proofs.Orders.{Ordered}
use Rattle.queues.proofs.Looking.{true_or}
use Rattle.heaps.specs.declared.entry.HeapEntry.{HeapEntry}
use Rattle.heaps.specs.Entries.{before}

pub record Ranked {X : Type 0} (first : X → X → Bool) : Type 0 where
  pub either : (a b : X) → first a b ≡ true → first b a ≡ false
  pub chain : (a b c : X) → first a b ≡ false → first b c ≡ false → first a c ≡ false

-- nothing comes before itself
pub first_self : {X : Type 0} {first : X → X → Bool} → Ranked first → (a : X) → first a a ≡ false
first_self {X} {first} ranks a = ⊎_elim (λ (y : first a a ≡ true). ranks.either a a y) (λ n. n) (cases_Bool (first a a))

-- a need not come before b: it is at most as heavy, and where as heavy not of a lower group
later : (x y : Bool) (m n : ℕ) → cond x (cond y (ltb m n) false) true ≡ false → (x ≡ true) × (y ≡ true → n ≤ m)
later true true m n e = (refl, λ _. ltb-false m n e)
later true false m n e = (refl, λ h. true_or h refl)
later false y m n e = true_or refl e

later_from : (x y : Bool) (m n : ℕ) → x ≡ true → (y ≡ true → n ≤ m) → cond x (cond y (ltb m n) false) true ≡ false
later_from true true m n e h = le-ltb m n (h refl)
later_from true false m n e h = refl
later_from false y m n e h = true_or e refl

sooner : (x y : Bool) (m n : ℕ) → cond x (cond y (ltb m n) false) true ≡ true → (y ≡ true → x ≡ true → m < n)
sooner true true m n e h k = ltb-true m n e
sooner true false m n e h k = true_or h refl
sooner false y m n e h k = true_or k refl

module _ {W : Type 0} (le : W → W → Bool) (laws : Ordered le) where
  pub entry_ranks : Ranked (before le)
  entry_ranks = record {
    either = λ a b e.
        let wins = sooner (le a.key b.key) (le b.key a.key) a.group b.group e in
        ⊎_elim
        (λ (ab : le a.key b.key ≡ true). ⊎_elim
        (λ (ba : le b.key a.key ≡ true). later_from _ _ b.group a.group ba (λ _. let w = wins ba ab in omega arith))
        (λ (nba : le b.key a.key ≡ false). let z : cond (le a.key b.key) (cond (le b.key a.key) (ltb a.group b.group) false) true ≡ false = rw (ab, nba) in true_or e z)
        (cases_Bool (le b.key a.key)))
        (λ (nab : le a.key b.key ≡ false). later_from _ _ b.group a.group
        (⊎_elim (λ (ab : le a.key b.key ≡ true). true_or ab nab) (λ ba. ba) (laws.total a.key b.key))
        (λ ab. true_or ab nab))
        (cases_Bool (le a.key b.key));
    chain = λ a b c e f.
        let p = later (le a.key b.key) (le b.key a.key) a.group b.group e in
        let q = later (le b.key c.key) (le c.key b.key) b.group c.group f in
        later_from (le a.key c.key) (le c.key a.key) a.group c.group
        (laws.trans a.key b.key c.key p.0 q.0)
        (λ ca.
        let x = p.1 (laws.trans b.key c.key a.key q.0 ca) in
        let y = q.1 (laws.trans c.key a.key b.key ca p.0) in
        omega arith);
  }

  -- what need not come before b is at most as heavy
  pub before_le : (a b : HeapEntry W) → before le a b ≡ false → le a.key b.key ≡ true
  before_le a b e = (later (le a.key b.key) (le b.key a.key) a.group b.group e).0

  -- and where it is as heavy its group is not lower
  pub before_lowest : (a b : HeapEntry W) → before le a b ≡ false → le b.key a.key ≡ true → b.group ≤ a.group
  before_lowest a b e = (later (le a.key b.key) (le b.key a.key) a.group b.group e).1

  -- an entry need not come before itself with a heavier key
  pub before_raised : (a b : HeapEntry W) → a.group ≡ b.group → le a.key b.key ≡ true → before le a b ≡ false
  before_raised a b same h = later_from (le a.key b.key) (le b.key a.key) a.group b.group h (λ _. omega arith)

-- a sum is at least as heavy as its first part
pub le_sum : {V : Type 0} {zero : V} {plus : V → V → V} {le : V → V → Bool} {size : V → ℕ} → Laws zero plus le size → (a b : V) → size a + size b ≤ limit → le a (plus a b) ≡ true
le_sum {V} {zero} {plus} {le} {size} laws a b h =
    let z = laws.none in
    let g = laws.grow zero b a (omega arith) (omega arith) (laws.least b (omega arith)) in
    rw (laws.neutral a (omega arith), laws.comm b a (omega arith)) at g
