-- Edits of a plan's links after which a weakest division is still weakest.
use Rattle.std.specs.Prelude.{◌≡◌, ℕ, Bool, true, false, cond, ◌⊎◌, List, [], ◌∷◌, ◌++◌}
use Rattle.cuts.specs.Kinds.{Kind, AtMost}
use Rattle.cuts.specs.Links.{Link, Sound}
use Rattle.cuts.specs.Divisions.{Weakest}

-- the link with another weight
abbrev pub reweighed : {V : Type 0} → Link V → V → Link V
reweighed l w = record { first = l.first; second = l.second; in_service = l.in_service; weight = w }

-- the link put in service or out of it
abbrev pub marked : {V : Type 0} → Link V → Bool → Link V
marked l b = record { first = l.first; second = l.second; in_service = b; weight = l.weight }

-- both ends are on one side, or on different sides
abbrev pub OneSide : {V : Type 0} → (ℕ → Bool) → Link V → Type 0
OneSide S l = S l.first ≡ S l.second

abbrev pub DifferentSides : {V : Type 0} → (ℕ → Bool) → Link V → Type 0
DifferentSides S l = S l.first ≡ S l.second → ⊥

module _ {V : Type 0} (K : Kind V) where
  -- what a link adds to the weight of a division that parts its ends
  abbrev pub adds : Link V → V
  adds l = cond l.in_service l.weight K.nothing

  -- a division that is weakest over one list of links is weakest over another
  abbrev pub Stays : ℕ → (ℕ → Bool) → List (Link V) → List (Link V) → Type 0
  Stays n S ls ms = Sound K n ls → Sound K n ms → Weakest K n ls S → Weakest K n ms S

  -- two lists of links that differ in one place, with the same ends there: it adds no less, with both ends on one side, or no more, with ends on different sides
  abbrev pub ChangeKeeps : Type 0
  ChangeKeeps =
      (n : ℕ) (S : ℕ → Bool) (ps qs : List (Link V)) (l m : Link V) → m.first ≡ l.first → m.second ≡ l.second
      → (OneSide S l × AtMost K (adds l) (adds m)) ⊎ (DifferentSides S l × AtMost K (adds m) (adds l))
      → Stays n S (ps ++ (l ∷ qs)) (ps ++ (m ∷ qs))

  -- the table of edits: marks that are weakest before an edit are weakest after it
  pub record EditsKeep : Type 0 where
    pub link : (n : ℕ) (S : ℕ → Bool) (ps : List (Link V)) (l : Link V) → OneSide S l → Stays n S ps (ps ++ (l ∷ []))
    pub strike : (n : ℕ) (S : ℕ → Bool) (ps qs : List (Link V)) (l : Link V) → (l.in_service ≡ false) ⊎ DifferentSides S l → Stays n S (ps ++ (l ∷ qs)) (ps ++ qs)
    pub mark_out : (n : ℕ) (S : ℕ → Bool) (ps qs : List (Link V)) (l : Link V) → (l.in_service ≡ false) ⊎ DifferentSides S l → Stays n S (ps ++ (l ∷ qs)) (ps ++ (marked l false ∷ qs))
    pub mark_in : (n : ℕ) (S : ℕ → Bool) (ps qs : List (Link V)) (l : Link V) → (l.in_service ≡ true) ⊎ OneSide S l → Stays n S (ps ++ (l ∷ qs)) (ps ++ (marked l true ∷ qs))
    pub reweigh : (n : ℕ) (S : ℕ → Bool) (ps qs : List (Link V)) (l : Link V) (w : V)
        → (l.in_service ≡ false) ⊎ ((w ≡ l.weight) ⊎ ((OneSide S l × AtMost K l.weight w) ⊎ (DifferentSides S l × AtMost K w l.weight)))
        → Stays n S (ps ++ (l ∷ qs)) (ps ++ (reweighed l w ∷ qs))
