-- What the plan of a right sheet is made of.
use Rattle.std.specs.Prelude.{◌≡◌, ℕ, ◌*◌, ◌<◌, false, List, [], length, take, slice_index_or}
use Rattle.std.specs.List.{flat_map}
use Rattle.weights.specs.declared.weight.Weight.{Ghosts}
use Rattle.plans.specs.Model.{Model, borne_by_other}
use Rattle.sheets.specs.Fields.{bytes_at, link_place, links_in}
use Rattle.sheets.specs.Format.{link_bytes, link_size}

-- no code is among those before it
abbrev pub Apart : List (List ℕ) → Type 0
Apart texts = (k : ℕ) → k < length texts → borne_by_other k (slice_index_or texts k []) (take k texts) ≡ false

-- the units are those of before, and the links are those of the bytes
pub record Loaded {W : Type 0} (g : Ghosts W) (bs : List ℕ) (before after : Model W) : Type 0 where
  pub codes : after.codes ≡ before.codes
  pub count : length after.links ≡ links_in bs
  pub bytes : bytes_at bs (link_place g bs 0) (links_in bs * link_size g) ≡ flat_map (link_bytes g) after.links
