-- What is proved, for every kind of weights that shows the laws: why the figure is least.
use Rattle.std.specs.Prelude.{◌≡◌, ℕ, ◌+◌, ◌<◌, ◌≤◌, Bool, true, false, ◌⊎◌, List, [], ◌∷◌, length, take, ◌≢◌}
use Rattle.weights.specs.Laws.{limit}
use Rattle.cuts.specs.declared.entry.Entry.{Entry}
use Rattle.cuts.specs.declared.ground.Ground.{Ground}
use Rattle.cuts.specs.Kinds.{Kind, AtMost, above}
use Rattle.cuts.specs.Links.{Link, Sound}
use Rattle.cuts.specs.Divisions.{Division, turned, weight_of, between, Weakest, Figure, only}
use Rattle.cuts.specs.Groups.{after, stands, left, Whole, Joins, degree}
use Rattle.cuts.specs.Tests.{Meets}
use Rattle.cuts.specs.Scans.{has, key, Capped, Order, Complete}
use Rattle.cuts.specs.Records.{Point, best_weight, ended, scanned, Work}

-- after mergers a group goes by its lowest unit, and each merger leaves one group fewer
abbrev pub GroupsNamed : Type 0
GroupsNamed =
    (n : ℕ) (es : List Entry) → Joins n [] es
    → ((x : ℕ) → after es x ≤ x) × ((x : ℕ) → after es (after es x) ≡ after es x) × (left n es + length es ≡ n)

module _ {V : Type 0} (K : Kind V) where
  -- a division that parts u and v weighs at least best, or one that does not part them weighs no more than it
  abbrev pub LosesNothing : ℕ → List (Link V) → List Entry → V → ℕ → ℕ → Type 0
  LosesNothing n ls es best u v =
      (S : ℕ → Bool) → Division n S → Whole n es S → (S u ≢ S v)
      → AtMost K best (weight_of K ls S)
      ⊎ ((R : ℕ → Bool) × Division n R × Whole n es R × (R u ≡ R v) × AtMost K (weight_of K ls R) (weight_of K ls S))

  -- grounds 1 to 4: where best is at most every group's degree, a pair that meets a test may be merged
  abbrev pub GroundsSafe : Type 0
  GroundsSafe =
      (n : ℕ) (ls : List (Link V)) → Sound K n ls → (es : List Entry) → Joins n [] es
      → (best : V) → K.amount best ≤ limit → ((g : ℕ) → stands n es g ≡ true → AtMost K best (degree K ls es g))
      → (u v : ℕ) → stands n es u ≡ true → stands n es v ≡ true → (u ≢ v)
      → (why : Ground) → Meets K n ls es best u v why → LosesNothing n ls es best u v

  -- ground 5: no division that parts a found pair weighs less than the cap, which is best at the scan's start
  abbrev pub ScanSafe : Type 0
  ScanSafe =
      (n : ℕ) (ls : List (Link V)) → Sound K n ls → (es : List Entry) → Joins n [] es
      → (cap : V) → K.amount cap ≤ limit → (v : ℕ) (taken : List ℕ) → Capped K n ls es cap (v ∷ taken)
      → (w : ℕ) → stands n es w ≡ true → has (v ∷ taken) w ≡ false → AtMost K cap (key K n ls es (v ∷ taken) w)
      → (S : ℕ → Bool) → Whole n es S → (S v ≢ S w) → AtMost K cap (weight_of K ls S)

  -- the same where each group taken was a heaviest, with no cap
  abbrev pub OrderSafe : Type 0
  OrderSafe =
      (n : ℕ) (ls : List (Link V)) → Sound K n ls → (es : List Entry) → Joins n [] es
      → (bound : V) → K.amount bound ≤ limit → (v : ℕ) (taken : List ℕ) → Order K n ls es (v ∷ taken)
      → (w : ℕ) → stands n es w ≡ true → has (v ∷ taken) w ≡ false → AtMost K bound (key K n ls es (v ∷ taken) w)
      → (S : ℕ → Bool) → Whole n es S → (S v ≢ S w) → AtMost K bound (weight_of K ls S)

  -- every scan of the work finds a pair and merges it
  abbrev pub ScanMerges : Type 0
  ScanMerges =
      (n : ℕ) (ls : List (Link V)) → Sound K n ls → 2 ≤ n → (p : Point) → Work K n ls p → ended K n ls p ≡ false
      → (taken : List ℕ) → Order K n ls p.done taken → Complete K n ls p.done taken
      → length p.done < length (scanned K n ls taken p).done

  -- m is the least among the degrees of all groups so far and the weights of all divisions that keep every present group whole
  pub record LeastAt (n : ℕ) (ls : List (Link V)) (es : List Entry) (m : V) : Type 0 where
    pub groups : (k g : ℕ) → k ≤ length es → stands n (take k es) g ≡ true → AtMost K m (degree K ls (take k es) g)
    pub divisions : (S : ℕ → Bool) → Division n S → Whole n es S → AtMost K m (weight_of K ls S)
    pub reached :
        ((k g : ℕ) × (k ≤ length es) × (stands n (take k es) g ≡ true) × (m ≡ degree K ls (take k es) g))
        ⊎ ((S : ℕ → Bool) × Division n S × Whole n es S × (m ≡ weight_of K ls S))

  -- what holds of a record at whose end the work stands at p
  pub record Answers (n : ℕ) (ls : List (Link V)) (p : Point) : Type 0 where
    -- each merger joins two different groups that then stand, under the lower
    pub joins : Joins n [] p.done
    -- there are units - 2 mergers; when the figure is nothing there may be fewer
    pub few : length p.done + 2 ≤ n
    pub all : above K (best_weight K n ls p) ≡ true → length p.done + 2 ≡ n
    -- best is a weakest division
    pub weakest : Weakest K n ls p.best
    -- at the start and after each merger the figure is the least
    pub points : (k : ℕ) → k ≤ length p.done → LeastAt n ls (take k p.done) (best_weight K n ls p)

  abbrev pub RecordLeast : Type 0
  RecordLeast = (n : ℕ) (ls : List (Link V)) → Sound K n ls → 2 ≤ n → (p : Point) → Work K n ls p → ended K n ls p ≡ true → Answers n ls p

  -- the rules allow some record for every plan: the work can go on until it ends
  abbrev pub RecordExists : Type 0
  RecordExists = (n : ℕ) (ls : List (Link V)) → Sound K n ls → 2 ≤ n → (p : Point) × Work K n ls p × (ended K n ls p ≡ true)

  -- a weakest division turned over, so that unit 0 is not marked, is the same division: it weighs the same and is weakest
  abbrev pub TurnedWeakest : Type 0
  TurnedWeakest =
      (n : ℕ) (ls : List (Link V)) (S : ℕ → Bool) → Weakest K n ls S
      → (turned S 0 ≡ false) × (weight_of K ls (turned S) ≡ weight_of K ls S) × Weakest K n ls (turned S)

  -- plans of n units with the same joint weight for every two units
  abbrev pub Alike : ℕ → List (Link V) → List (Link V) → Type 0
  Alike n ls ms = (x y : ℕ) → x < n → y < n → (x ≢ y) → between K ls (only x) (only y) ≡ between K ms (only x) (only y)

  abbrev pub AlikeSame : Type 0
  AlikeSame =
      (n : ℕ) (ls ms : List (Link V)) → Sound K n ls → Sound K n ms → Alike n ls ms
      → ((S : ℕ → Bool) → weight_of K ls S ≡ weight_of K ms S) × ((a b : V) → Figure K n ls a → Figure K n ms b → a ≡ b)
