-- What a priority queue's calls do to its entries: `key g` is the key of the group g where it waits.
use Rattle.std.specs.Prelude.{◌≡◌, ℕ, ◌+◌, ◌<◌, ◌≤◌, Bool, true, ◌⊎◌, is_some, Some, None, Ok, Err, Option, Result, nat_eq}
use Rattle.std.specs.Map.{update}
use Rattle.refusals.specs.declared.Refusal.{Refusal}
use Rattle.refusals.specs.declared.Refusal.TheVariants.{NoSuchUnit, AlreadyWaiting, NotWaiting, OverLimit}
use Rattle.weights.specs.Laws.{limit}
use Rattle.weights.specs.declared.weight.Weight.{Ghosts}

-- whether a weight is no heavier than another, by what the two mean
abbrev pub no_heavier : {W : Type 0} → Ghosts W → W → W → Bool
no_heavier g = λ a b. g.le (g.value a) (g.value b)

-- no group waits
abbrev pub Empty : {W : Type 0} → (ℕ → Option W) → Type 0
Empty key = (g : ℕ) → key g ≡ None

-- every entry is as it was
abbrev pub Unchanged : {W : Type 0} → (ℕ → Option W) → (ℕ → Option W) → Type 0
Unchanged before after = (q : ℕ) → after q ≡ before q

-- the entry of g is now x, and every other is as it was
abbrev pub Becomes : {W : Type 0} → (ℕ → Option W) → (ℕ → Option W) → ℕ → Option W → Type 0
Becomes before after g x = (q : ℕ) → after q ≡ update nat_eq before g x q

-- the group g, one from 0 to 63, waits with the key k, and no key is heavier
pub record Heaviest {W : Type 0} (le : W → W → Bool) (key : ℕ → Option W) (g : ℕ) (k : W) : Type 0 where
  pub group : g < 64
  pub here : key g ≡ Some k
  pub most : (h : ℕ) (v : W) → key h ≡ Some v → le v k ≡ true

-- the group g waits with the key k, and no key is heavier
pub record Leads {W : Type 0} (le : W → W → Bool) (key : ℕ → Option W) (g : ℕ) (k : W) : Type 0 where
  pub here : key g ≡ Some k
  pub most : (h : ℕ) (v : W) → key h ≡ Some v → le v k ≡ true

-- put: 9 above 63, then 18 if it waits already, and a refusal changes no entry
abbrev pub Put : {W U : Type 0} → (ℕ → Option W) → (ℕ → Option W) → ℕ → W → Result U Refusal → Type 0
Put before after g k (Ok _) = (g < 64) × (before g ≡ None) × Becomes before after g (Some k)
Put before after g k (Err e) =
    (((64 ≤ g) × (e ≡ NoSuchUnit)) ⊎ ((g < 64) × (is_some (before g) ≡ true) × (e ≡ AlreadyWaiting))) × Unchanged before after

-- raise: 19 if the group does not wait, then 12 if the sum is refused, and a refusal changes no entry
abbrev pub Raised : {W V : Type 0} → (W → V) → (V → V → V) → (V → ℕ) → (ℕ → Option W) → (ℕ → Option W) → ℕ → W → Result W Refusal → Type 0
Raised {W} value plus size before after g by (Ok k) =
    ((old : W) × (before g ≡ Some old) × (size (value old) + size (value by) ≤ limit) × (value k ≡ plus (value old) (value by)))
    × Becomes before after g (Some k)
Raised {W} value plus size before after g by (Err e) =
    (((before g ≡ None) × (e ≡ NotWaiting))
    ⊎ ((old : W) × (before g ≡ Some old) × (limit < size (value old) + size (value by)) × (e ≡ OverLimit)))
    × Unchanged before after

-- take: a heaviest entry goes, and none exactly where no group waits
abbrev pub Taken : {W : Type 0} → (W → W → Bool) → (ℕ → Option W) → (ℕ → Option W) → Option (ℕ × W) → Type 0
Taken le before after None = Empty before × Empty after
Taken le before after (Some p) = Heaviest le before p.0 p.1 × Becomes before after p.0 None
