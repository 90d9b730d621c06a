-- An answer that was worked out, and what is promised of it.
use Rattle.std.specs.Prelude.{◌≡◌, ℕ, ◌+◌, ◌<◌, ◌≤◌, Bool, true, false, cond, List, [], length, take, ◌==◌, slice_index}
use Rattle.cuts.specs.declared.entry.Entry.{Entry}
use Rattle.cuts.specs.Kinds.{Kind, above}
use Rattle.cuts.specs.Links.{Link, Sound}
use Rattle.cuts.specs.Divisions.{turned, weight_of, Weakest}
use Rattle.cuts.specs.Groups.{Joins}
use Rattle.cuts.specs.Records.{Point, best_weight, ended, Work}
use Rattle.cuts.specs.Claims.{LeastAt}

-- the division that marks give, of which there is one byte for each unit
abbrev pub marking : List ℕ → ℕ → Bool
marking marks x = slice_index marks x == 1

module _ {V : Type 0} (K : Kind V) (n : ℕ) (ls : List (Link V)) where
  -- the work allows the record, and ends with it, the figure, the marks and so many scans
  pub record Outcome (figure : V) (marks : List ℕ) (entries : List Entry) (scans : ℕ) : Type 0 where
    pub end : Point
    pub allowed : Work K n ls end
    pub ends : ended K n ls end ≡ true
    pub figure_is : best_weight K n ls end ≡ figure
    pub marks_are : (x : ℕ) → x < n → slice_index marks x ≡ cond (turned end.best x) 1 0
    pub entries_are : end.done ≡ entries
    pub scans_are : end.scans ≡ scans

  pub record Promised (figure : V) (marks : List ℕ) (entries : List Entry) : Type 0 where
    -- the figure is the weight of the division that the marks give, and no division weighs less
    pub weighs : weight_of K ls (marking marks) ≡ figure
    pub weakest : Weakest K n ls (marking marks)
    pub unit_0 : marking marks 0 ≡ false
    -- there are units - 2 mergers; when the figure is nothing there may be fewer
    pub few : length entries + 2 ≤ n
    pub all : above K figure ≡ true → length entries + 2 ≡ n
    -- each joins two different groups that then stand, under the lower
    pub joins : Joins n [] entries
    -- at the start and after each merger the figure is the least among the degrees of all groups so far and the weights of all divisions that keep every present group whole
    pub points : (k : ℕ) → k ≤ length entries → LeastAt K n ls (take k entries) figure

abbrev pub OutcomePromised : {V : Type 0} → Kind V → Type 0
OutcomePromised {V} K =
    (n : ℕ) (ls : List (Link V)) → Sound K n ls → 2 ≤ n
    → (figure : V) (marks : List ℕ) (entries : List Entry) (scans : ℕ) → Outcome K n ls figure marks entries scans → Promised K n ls figure marks entries
