-- The steps of a loop that puts one record after another.
use Rattle.std.proofs.Common.{◌≡◌, ℕ, ◌+◌, ◌<◌, ◌≤◌, List, [], length, get_or, take, ap, arith}
use Rattle.std.specs.List.{flat_map}
use Rattle.std.proofs.lemmas.List.{take_all, take_more, flat_map_more}
use Rattle.std.proofs.lemmas.List.Folds.{length-flat_map-take}
use Rattle.writers.specs.declared.pen.Pen.{Pen}
use Rattle.writers.specs.Fields.{Put, Fits, Wrote}
use Rattle.writers.proofs.Puts.{put_same, wrote_both}

module _ {X : Type 0} (f : X → List ℕ) (xs : List X) (i : ℕ) {x : X} {old cur : Pen} (is : x ≡ get_or xs i x) (more : i < length xs) (so_far : Wrote old (flat_map f (take i xs)) cur) where
  -- room for the next record
  pub room_next : Fits old (flat_map f xs) → Fits cur (f x)
  room_next room =
      let part = length-flat_map-take f xs i x more in
      let same = ap (λ y. length (f y)) is in
      let put = so_far.put in
      omega arith

  -- the next record put
  pub put_next : {new : Pen} → Wrote cur (f x) new → Wrote old (flat_map f (take (i + 1) xs)) new
  put_next p = rw (take_more xs i x more, ← flat_map_more f [] (take i xs) (get_or xs i x), ← is) (wrote_both so_far p)

-- every record put
pub put_all : {X : Type 0} (f : X → List ℕ) (xs : List X) (i : ℕ) {out cur : List ℕ} {at next : ℕ} → Put out at (flat_map f (take i xs)) next cur → length xs ≤ i → Put out at (flat_map f xs) next cur
put_all f xs i so_far h = put_same (ap (flat_map f) (take_all i xs h)) so_far
