-- What the slots of a list mean: the slot at a place speaks of the group of that number.
use Rattle.std.specs.Prelude.{◌≡◌, ℕ, zero, suc, ◌<◌, ◌≤◌, Bool, true, false, cond, List, [], ◌∷◌, Some, None, Option, nat_lt}
use Rattle.std.proofs.Common.{arith}
use Rattle.std.proofs.lemmas.Bool.{cond-false, le-ltb}
use Rattle.queues.specs.declared.list.Slot.{Slot}
use Rattle.queues.specs.Keys.{Empty, Leads}

-- the key that a slot holds
abbrev pub held : {W : Type 0} → Slot W → Option W
held s = s.key

-- the key that the slot at a place holds
abbrev pub keyed : {W : Type 0} → List (Slot W) → ℕ → Option W
keyed [] g = None
keyed (s ∷ ss) zero = held s
keyed (s ∷ ss) (suc g) = keyed ss g

-- the entries of a list: only slots below its reach count
abbrev pub waiting : {W : Type 0} → List (Slot W) → ℕ → ℕ → Option W
waiting slots reach g = cond (nat_lt g reach) (keyed slots g) None

-- no group past the last one waits
pub waiting_within : {W : Type 0} (slots : List (Slot W)) (reach g : ℕ) → reach ≤ 64 → 64 ≤ g → waiting slots reach g ≡ None
waiting_within slots reach g low far = cond-false (nat_lt g reach) (keyed slots g) None (le-ltb g reach (omega arith))

-- what makes a list sound: its reach stays within the groups, and there is a slot for each group
abbrev pub Fits : ℕ → ℕ → Type 0
Fits size reach = (reach ≤ 64) × (64 ≤ size)

-- a key is there only of a group from 0 to 63
abbrev pub Within : {W : Type 0} → Option W → ℕ → Type 0
Within None g = Unit {0}
Within (Some k) g = g < 64

-- an entry is there only of a group below the reach
abbrev pub Reached : {W : Type 0} → Option (ℕ × W) → ℕ → Type 0
Reached None reach = Unit {0}
Reached (Some p) reach = p.0 < reach

-- every group before g is lighter than k
abbrev pub First : {W : Type 0} → (W → W → Bool) → (ℕ → Option W) → ℕ → W → Type 0
First {W} le key g k = (h : ℕ) (v : W) → h < g → key h ≡ Some v → le k v ≡ false

-- the first of the heaviest entries, or none where no group waits
abbrev pub Best : {W : Type 0} → (W → W → Bool) → (ℕ → Option W) → Option (ℕ × W) → Type 0
Best le key None = Empty key
Best le key (Some p) = Leads le key p.0 p.1 × First le key p.0 p.1

-- whether the key k is heavier than what was best so far
abbrev pub beats : {W : Type 0} → (W → W → Bool) → Option (ℕ × W) → W → Bool
beats le None k = true
beats le (Some p) k = cond (le k p.1) false true
