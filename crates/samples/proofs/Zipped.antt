-- A test of each element decides that a fact holds of all of them.
use Rattle.std.proofs.Common.{ℕ, ◌<◌, Bool, true, false, IsTrue, All, List, [], ◌∷◌, length, arith, rules}
use Rattle.std.specs.Prelude.{MatchBool}
use Rattle.std.specs.List.{AllWithin, HoldsAt}

pub all_decided : {X : Type 0} (Y : X → Type 0) (xs : List X) (r : Bool) → MatchBool r (AllWithin Y xs 0 (length xs)) ((k : ℕ) × (k < length xs) × HoldsAt (λ x. Y x → ⊥) xs k) → (IsTrue r → All Y xs) × (All Y xs → IsTrue r)
all_decided Y xs true h = search rules
all_decided Y [] false h = absurd (omega (arith, h.1))
all_decided Y (x ∷ xs) false h = ((λ e. search rules), (λ a. absurd (h.2 x (a h.0 x h.1))))
