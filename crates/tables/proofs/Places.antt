-- Entries of the weight table by row and column: what a write changes and what it leaves.
use Rattle.std.proofs.Common.{◌≡◌, ℕ, zero, suc, ◌+◌, ◌*◌, ◌<◌, ◌≤◌, List, [], ◌∷◌, length, drop, set, arith}
use Rattle.std.proofs.lemmas.Nat.{mul-add-lt}
use Rattle.std.proofs.lemmas.List.{drop-set-lt}
use Rattle.weights.specs.Laws.{limit}
use Rattle.weights.specs.declared.weight.Weight.{Ghosts}
use Rattle.tables.specs.Meaning.{value_at, at}
use Rattle.tables.proofs.Cells.{value_set_same, value_set_other, same_cell}

module _ {W : Type 0} (g : Ghosts W) where
  -- every value in a table keeps the limit
  pub value_fits : g.size g.zero ≡ 0 → ((x : W) → g.size (g.value x) ≤ limit) → (xs : List W) (i : ℕ) → g.size (value_at g xs i) ≤ limit
  unfolding value_at
  value_fits none bounded [] i = omega arith
  value_fits none bounded (y ∷ xs) zero = bounded y
  value_fits none bounded (y ∷ xs) (suc i) = value_fits none bounded xs i

  module _ (table : List W) (n c d : ℕ) (x : W) where
    -- the entry that is written
    pub at_same : c < n → d < n → n * n ≤ length table → at g (set table (c * n + d) x) n c d ≡ g.value x
    at_same lc ld size = value_set_same g table (c * n + d) x (omega (arith, mul-add-lt c n d n lc ld))

    -- any other entry
    pub at_other : (a b : ℕ) → b < n → d < n → ((a ≡ c) × (b ≡ d) → ⊥) → at g (set table (c * n + d) x) n a b ≡ at g table n a b
    at_other a b h k ne = value_set_other g table (c * n + d) (a * n + b) x (λ e. ne (same_cell n a b c d h k e))

    -- what lies past the n rows
    pub rest_set : c < n → d < n → drop (n * n) (set table (c * n + d) x) ≡ drop (n * n) table
    rest_set lc ld = drop-set-lt (n * n) table (c * n + d) x (mul-add-lt c n d n lc ld)
