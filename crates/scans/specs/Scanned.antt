-- What a scan finds, and what is noted of it.
use Rattle.std.specs.Prelude.{◌≡◌, ℕ, ◌<◌, List, [], take}
use Rattle.cuts.specs.declared.entry.Entry.{Entry}
use Rattle.cuts.specs.Kinds.{Kind}
use Rattle.cuts.specs.Links.{Link}
use Rattle.cuts.specs.Groups.{after, Joins}
use Rattle.cuts.specs.Scans.{Order, Complete, found}
use Rattle.cuts.specs.Noted.{classes, noted}
use Rattle.tables.specs.Meaning.{Tracks}
use Rattle.scans.specs.declared.found.Found.{Found}

-- the pairs that were noted, in order
abbrev pub pairs_of : Found → List (ℕ × ℕ)
pairs_of f = take f.count f.pairs

-- of the pairs found among n groups those were noted that join two classes; the classes are kept as the groups that some mergers make
pub record Notes (n : ℕ) (pairs : List (ℕ × ℕ)) (f : Found) : Type 0 where
  pub mergers : List Entry
  pub joins : Joins n [] mergers
  pub tracks : Tracks n mergers f.classes
  pub classes_are : (x : ℕ) → x < n → after mergers x ≡ classes (λ y. y) pairs x
  pub pairs_are : pairs_of f ≡ noted (λ y. y) pairs

-- the pairs are those that a scan finds which takes the groups in some order, each time a heaviest one, without those
-- whose groups earlier pairs bring together already
pub record Scanned {V : Type 0} (K : Kind V) (n : ℕ) (ls : List (Link V)) (es : List Entry) (bound : V) (pairs : List (ℕ × ℕ)) : Type 0 where
  pub taken : List ℕ
  pub order : Order K n ls es taken
  pub complete : Complete K n ls es taken
  pub pairs_are : pairs ≡ noted (λ x. x) (found K n ls es bound taken)
