-- What a queue asks of the memory that it is lent, and what it leaves there.
use Rattle.std.specs.Prelude.{◌≡◌, ℕ, ◌<◌, ◌≤◌, List, Ok, Err, Result}
use Rattle.std.specs.List.{slice_get}
use Rattle.refusals.specs.declared.Refusal.{Refusal}
use Rattle.refusals.specs.declared.Refusal.TheVariants.{ShortMemory}

-- n places are enough for every group, else 17
abbrev pub Enough : {U : Type 0} → Result U Refusal → ℕ → Type 0
Enough (Ok _) n = 64 ≤ n
Enough (Err e) n = (n < 64) × (e ≡ ShortMemory)

-- What stands in the first n places is unsettled: beyond the keys of the queue's entries nothing is said of it.
-- From n on every place holds what it held.
abbrev pub Unsettled : {X : Type 0} → ℕ → List X → List X → Type 0
Unsettled n old new = (place : ℕ) → n ≤ place → slice_get new place ≡ slice_get old place
