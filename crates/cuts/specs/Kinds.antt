-- A kind of weights, as the theorems take it: nothing, sum, order and amount.
use Rattle.std.specs.Prelude.{◌≡◌, ℕ, Bool, true, false, cond}
use Rattle.weights.specs.Laws.{Laws}
use Rattle.weights.specs.declared.weight.Weight.{Ghosts}

pub record Kind (V : Type 0) : Type 0 where
  pub nothing : V
  pub plus : V → V → V
  pub at_most : V → V → Bool
  pub amount : V → ℕ

-- the kind with the given nothing, sum, order and amount
abbrev pub kind : {V : Type 0} → V → (V → V → V) → (V → V → Bool) → (V → ℕ) → Kind V
kind nothing plus at_most amount = record { nothing = nothing; plus = plus; at_most = at_most; amount = amount }

-- the kind of a program's weights, by their meaning
abbrev pub kind_of : {W : Type 0} → (g : Ghosts W) → Kind g.Value
kind_of g = kind g.zero g.plus g.le g.size

-- the kind shows the laws, each where no sum in it is refused
abbrev pub Lawful : {V : Type 0} → Kind V → Type 0
Lawful K = Laws K.nothing K.plus K.at_most K.amount

abbrev pub AtMost : {V : Type 0} → Kind V → V → V → Type 0
AtMost K a b = K.at_most a b ≡ true

-- a is heavier than nothing
abbrev pub above : {V : Type 0} → Kind V → V → Bool
above K a = cond (K.at_most a K.nothing) false true

-- the lighter of two weights
abbrev pub lesser : {V : Type 0} → Kind V → V → V → V
lesser K a b = cond (K.at_most a b) a b
