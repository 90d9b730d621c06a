-- What a drain gives: `out` lists the entries in the order in which they came out, each a group and its key.
use Rattle.std.specs.Prelude.{◌≡◌, ℕ, Bool, true, cond, List, [], ◌∷◌, Some, None, Option, ◌==◌}

-- the keys with which the group g came out
abbrev pub keys_for : {W : Type 0} → ℕ → List (ℕ × W) → List W
keys_for g [] = []
keys_for g (p ∷ out) = cond (p.0 == g) (p.1 ∷ keys_for g out) (keys_for g out)

-- the key of a group that waits, once; nothing of one that does not
abbrev pub once : {W : Type 0} → Option W → List W
once None = []
once (Some k) = k ∷ []

-- no key is heavier than k
abbrev pub NoneAbove : {W : Type 0} → (W → W → Bool) → W → List (ℕ × W) → Type 0
NoneAbove le k [] = Unit {0}
NoneAbove le k (p ∷ out) = (le p.1 k ≡ true) × NoneAbove le k out

-- no key is heavier than one that came out before it
abbrev pub NeverRising : {W : Type 0} → (W → W → Bool) → List (ℕ × W) → Type 0
NeverRising le [] = Unit {0}
NeverRising le (p ∷ out) = NoneAbove le p.1 out × NeverRising le out

-- Every entry comes out exactly once, with its key, and nothing else does; and keys never rise.
pub record Drained {W : Type 0} (le : W → W → Bool) (key : ℕ → Option W) (out : List (ℕ × W)) : Type 0 where
  pub entries : (g : ℕ) → keys_for g out ≡ once (key g)
  pub falling : NeverRising le out
