-- Which of two entries comes first.
use Rattle.std.specs.Prelude.{Bool, true, false, cond, nat_lt}
use Rattle.heaps.specs.declared.entry.HeapEntry.{HeapEntry}

-- the heavier entry comes first, and of equally heavy ones that of the lower group
abbrev pub before : {W : Type 0} → (W → W → Bool) → HeapEntry W → HeapEntry W → Bool
before le a b = cond (le a.key b.key) (cond (le b.key a.key) (nat_lt a.group b.group) false) true
