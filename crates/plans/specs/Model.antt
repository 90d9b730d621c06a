-- A plan as the rules speak of it.
use Rattle.std.specs.Prelude.{ℕ, zero, suc, Bool, true, false, not, ◌&&◌, ◌||◌, List, [], ◌∷◌, ◌++◌, map, take, ◌==◌, slice_set}
use Rattle.std.specs.List.{remove}
use Rattle.weights.specs.declared.weight.Weight.{Ghosts}
use Rattle.plans.specs.declared.plan.Link.{Link}
use Rattle.plans.specs.declared.plan.Plan.{Plan}
pub use Rattle.plans.specs.Sound.{amount_of, code_of, total_of}

-- the codes of the units, in order of entry, and the links: two ends, in service or not, and a weight
pub record Model (W : Type 0) : Type 0 where
  pub codes : List (List ℕ)
  pub links : List (Link W)

-- what a plan in memory stands for; the memory past its units and links is not part of it
abbrev pub model_of : {W : Type 0} {g : Ghosts W} → Plan W g → Model W
model_of p = record { codes = map code_of (take p.unit_count p.units); links = take p.link_count p.links.now }

-- two texts agree in length and in every character
abbrev pub same_text : List ℕ → List ℕ → Bool
same_text [] [] = true
same_text [] (c ∷ cs) = false
same_text (b ∷ bs) [] = false
same_text (b ∷ bs) (c ∷ cs) = b == c && same_text bs cs

-- some unit other than number k bears the code; the first of the codes is that of unit i
abbrev pub borne_from : ℕ → ℕ → List ℕ → List (List ℕ) → Bool
borne_from i k text [] = false
borne_from i k text (c ∷ cs) = (not (i == k) && same_text c text) || borne_from (suc i) k text cs

-- some unit other than number k bears the code
abbrev pub borne_by_other : ℕ → List ℕ → List (List ℕ) → Bool
borne_by_other k text cs = borne_from 0 k text cs

-- the model with a unit more
abbrev pub entered : {W : Type 0} → List ℕ → Model W → Model W
entered text m = record { codes = m.codes ++ (text ∷ []); links = m.links }

-- one unit has another code
abbrev pub recoded : {W : Type 0} → ℕ → List ℕ → Model W → Model W
recoded k text m = record { codes = slice_set m.codes k text; links = m.links }

-- a link more
abbrev pub linked : {W : Type 0} → Link W → Model W → Model W
linked l m = record { codes = m.codes; links = m.links ++ (l ∷ []) }

-- a link less; later ones move down by one
abbrev pub struck : {W : Type 0} → ℕ → Model W → Model W
struck k m = record { codes = m.codes; links = remove m.links k }

-- the links with one of them changed
abbrev pub changed : {W : Type 0} → ℕ → (Link W → Link W) → List (Link W) → List (Link W)
changed k f [] = []
changed zero f (l ∷ ls) = f l ∷ ls
changed (suc k) f (l ∷ ls) = l ∷ changed k f ls

-- one link has another weight
abbrev pub reweighed : {W : Type 0} → ℕ → W → Model W → Model W
reweighed k w m = record { codes = m.codes; links = changed k (λ l. record { first = l.first; second = l.second; in_service = l.in_service; weight = w }) m.links }

-- one link is in service or out
abbrev pub marked : {W : Type 0} → ℕ → Bool → Model W → Model W
marked k b m = record { codes = m.codes; links = changed k (λ l. record { first = l.first; second = l.second; in_service = b; weight = l.weight }) m.links }
