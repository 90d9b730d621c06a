-- What a write leaves in memory.
use Rattle.std.proofs.Common.{◌≡◌, ℕ, zero, suc, ◌+◌, ◌<◌, ◌≤◌, drop, List, [], ◌∷◌, length, set, Some, None, Option, sym, refl, ap, ◌∙◌, arith}
use lib.Dec.{eqb-zero-suc, eqb-suc-zero, eqb-suc-suc}
use Rattle.std.specs.List.{slice_get}
use Rattle.std.proofs.lemmas.Map.{update_apart}
use borrow.Rule.Slice.PartMut.{put_mid}
use Rattle.std.proofs.lemmas.Slice.{drop-put_mid}
use Rattle.queues.specs.Keys.{Becomes}
use Rattle.queues.specs.Memory.{Unsettled}
use Rattle.queues.specs.declared.list.Slot.{Slot}
use Rattle.queues.specs.Slots.{held, keyed}

pub nth_set : {X : Type 0} (xs : List X) (i : ℕ) (x : X) → i < length xs → Becomes (slice_get xs) (slice_get (set xs i x)) i (Some x)
nth_set [] i x h q = absurd (omega arith)
nth_set (y ∷ xs) zero x h zero = refl
nth_set (y ∷ xs) zero x h (suc q) = rw (eqb-zero-suc q)
nth_set (y ∷ xs) (suc i) x h zero = rw (eqb-suc-zero i)
nth_set (y ∷ xs) (suc i) x h (suc q) = rw (eqb-suc-suc i q) (nth_set xs i x (omega arith) q)

-- a write below n
pub unsettled_set : {X : Type 0} (old xs : List X) (n i : ℕ) (x : X) → i < n → i < length xs → Unsettled n old xs → Unsettled n old (set xs i x)
unsettled_set old xs n i x low room before place far = nth_set xs i x room place ∙ update_apart (slice_get xs) i (Some x) place (λ e. omega arith) ∙ before place far

from_place : {X : Type 0} (xs : List X) (place : ℕ) → slice_get xs place ≡ slice_get (drop place xs) 0
from_place [] zero = refl
from_place [] (suc place) = refl
from_place (x ∷ xs) zero = refl
from_place (x ∷ xs) (suc place) = from_place xs place

-- a write to a part that ends before n
pub unsettled_part : {X : Type 0} (a k : ℕ) (xs ys : List X) (n : ℕ) → a ≤ length xs → length ys ≡ k → a + k ≤ n → Unsettled n xs (put_mid a k xs ys)
unsettled_part a k xs ys n room size low place far =
    from_place (put_mid a k xs ys) place ∙ ap (λ l. slice_get l 0) (drop-put_mid a k xs ys place (omega arith) room size) ∙ sym (from_place xs place)

-- what is said of a slot
abbrev spoken : {W : Type 0} → Option (Slot W) → Option W
spoken None = None
spoken (Some s) = held s

keyed_get : {W : Type 0} (ss : List (Slot W)) (g : ℕ) → keyed ss g ≡ spoken (slice_get ss g)
keyed_get [] g = refl
keyed_get (s ∷ ss) zero = refl
keyed_get (s ∷ ss) (suc g) = keyed_get ss g

-- a slot that is as it was says what it said
pub keyed_kept : {W : Type 0} (old new : List (Slot W)) (n : ℕ) → Unsettled n old new → (g : ℕ) → n ≤ g → keyed new g ≡ keyed old g
keyed_kept old new n kept g far = keyed_get new g ∙ ap spoken (kept g far) ∙ sym (keyed_get old g)
