-- What the memory of the work holds at a point of it.
use Rattle.std.specs.Prelude.{◌≡◌, ℕ, ◌*◌, ◌<◌, ◌≤◌, Bool, cond, List, length, take, drop, slice_index}
use Rattle.weights.specs.declared.weight.Weight.{Ghosts}
use Rattle.cuts.specs.declared.entry.Entry.{Entry}
use Rattle.cuts.specs.Kinds.{kind_of}
use Rattle.cuts.specs.Links.{Link}
use Rattle.cuts.specs.Records.{Point, best_weight}
use Rattle.tables.specs.declared.groups.Groups.{Groups}
use Rattle.tables.specs.Meaning.{Explains}
use Rattle.contractions.specs.declared.progress.Progress.{Progress}

-- the first n marks are those of the division S: 1 on its side, 0 on the other
abbrev pub Marks : ℕ → (ℕ → Bool) → List ℕ → Type 0
Marks n S marks = (x : ℕ) → x < n → slice_index marks x ≡ cond (S x) 1 0

-- the memory of the work is at the point p: table and groups are those after its mergers, the marks are those of its best
-- group, and the record, the figure and the number of scans are its own
pub record At {W : Type 0} (g : Ghosts W) (n : ℕ) (ls : List (Link g.Value)) (p : Point) (table : List W) (groups : Groups) (progress : Progress W) (marks : List ℕ) (entries : List Entry) : Type 0 where
  pub explains : Explains g n ls p.done table groups
  pub best : g.value progress.best ≡ best_weight (kind_of g) n ls p
  pub scans : progress.scans ≡ p.scans
  pub mergers : progress.mergers ≡ length p.done
  pub record_is : take progress.mergers entries ≡ p.done
  pub marks_are : Marks n p.best marks

-- memory past what the work may write is as it was: weights past the n rows, marks past the units, and record entries past the mergers
pub record Spared {W : Type 0} (n mergers : ℕ) (ws ws' : List W) (ms ms' : List ℕ) (es es' : List Entry) : Type 0 where
  pub weights : drop (n * n) ws' ≡ drop (n * n) ws
  pub marks : drop n ms' ≡ drop n ms
  pub entries : drop mergers es' ≡ drop mergers es

-- the work has room for n units
pub record Room {W : Type 0} (n : ℕ) (ws : List W) (ms : List ℕ) (es : List Entry) : Type 0 where
  pub most : n ≤ 64
  pub weights : n * n ≤ length ws
  pub marks : n ≤ length ms
  pub entries : n ≤ length es
