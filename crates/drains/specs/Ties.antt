-- What a queue means that holds a key for each group that waits, and which of its entries it takes.
use Rattle.std.specs.Prelude.{◌≡◌, ℕ, ◌≤◌, Bool, true, false, cond, List, length, Some, None, Option, slice_index_or}
use Rattle.std.proofs.Common.{arith}
use Rattle.std.proofs.lemmas.List.{get_or_past}
use Rattle.queues.specs.Keys.{Empty, Heaviest}
use Rattle.drains.specs.declared.tied.Tie.{Tie}
use Rattle.drains.specs.declared.tied.Tie.TheVariants.{Lowest, Highest}

-- the key of a group
abbrev pub keyed : {W : Type 0} → List (Option W) → ℕ → Option W
keyed keys g = slice_index_or keys g None

-- no group past the last one waits
pub keyed_within : {W : Type 0} (keys : List (Option W)) → length keys ≡ 64 → (g : ℕ) → 64 ≤ g → keyed keys g ≡ None
keyed_within keys size g far = get_or_past keys g None (omega arith)

-- the group g comes before h, or is h
abbrev pub Before : Tie → ℕ → ℕ → Type 0
Before Lowest g h = g ≤ h
Before Highest g h = h ≤ g

-- g comes before every other group that is as heavy
abbrev pub Preferred : {W : Type 0} → (W → W → Bool) → Tie → (ℕ → Option W) → ℕ → W → Type 0
Preferred {W} le tie key g k = (h : ℕ) (v : W) → key h ≡ Some v → le k v ≡ true → Before tie g h

-- of the heaviest entries that of the group that comes first; none where no group waits
abbrev pub Picked : {W : Type 0} → (W → W → Bool) → Tie → (ℕ → Option W) → Option (ℕ × W) → Type 0
Picked le tie key None = Empty key
Picked le tie key (Some p) = Heaviest le key p.0 p.1 × Preferred le tie key p.0 p.1

-- whether the key k of a group above all others so far is taken before the best of them
abbrev pub prefers : {W : Type 0} → (W → W → Bool) → Tie → Option (ℕ × W) → W → Bool
prefers le tie None k = true
prefers le Lowest (Some p) k = cond (le k p.1) false true
prefers le Highest (Some p) k = le p.1 k
