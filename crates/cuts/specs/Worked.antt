-- Worked plans: small plans with their figure, marks and record, and what it is for one to be right.
use Rattle.std.specs.Prelude.{◌≡◌, ℕ, true, false, List, [], ◌∷◌}
use Rattle.weights.specs.Kinds.{plain_plus, plain_le, plain_size, ranked_plus, ranked_le, ranked_size}
use Rattle.cuts.specs.declared.entry.Entry.{Entry}
use Rattle.cuts.specs.declared.ground.Ground.{Ground}
use Rattle.cuts.specs.declared.ground.Ground.TheVariants.{Heavy, Unbalanced, Triangle, Neighbourhood, Scan}
use Rattle.cuts.specs.Kinds.{Kind, kind}
use Rattle.cuts.specs.Links.{Link}
use Rattle.cuts.specs.Divisions.{weight_of, Weakest}
use Rattle.cuts.specs.Outcomes.{marking, Outcome}

pub record Worked (V : Type 0) : Type 0 where
  pub units : ℕ
  pub links : List (Link V)
  pub figure : V
  -- 1 or 0 for each unit
  pub marks : List ℕ
  pub entries : List Entry
  pub scans : ℕ

pub record Right {V : Type 0} (K : Kind V) (c : Worked V) : Type 0 where
  -- no division weighs less than the one of the marks, which weighs the figure
  pub weakest : Weakest K c.units c.links (marking c.marks)
  pub weighs : weight_of K c.links (marking c.marks) ≡ c.figure
  -- the work allows the record, and ends so
  pub outcome : Outcome K c.units c.links c.figure c.marks c.entries c.scans

abbrev pub AllRight : {V : Type 0} → Kind V → List (Worked V) → Type 0
AllRight K [] = Unit
AllRight K (c ∷ cs) = Right K c × AllRight K cs

-- a link in service, a link out of it, an entry
abbrev pub on : {V : Type 0} → ℕ → ℕ → V → Link V
on a b w = record { first = a; second = b; in_service = true; weight = w }

abbrev pub off : {V : Type 0} → ℕ → ℕ → V → Link V
off a b w = record { first = a; second = b; in_service = false; weight = w }

abbrev pub entry : ℕ → ℕ → (ground : Ground) → ℕ → Entry
entry low high why scan = record { low = low; high = high; ground = why; scan = scan }

abbrev pub case : {V : Type 0} → ℕ → List (Link V) → V → List ℕ → List Entry → ℕ → Worked V
case units links figure marks entries scans = record { units = units; links = links; figure = figure; marks = marks; entries = entries; scans = scans }

abbrev pub plain : Kind ℕ
plain = kind 0 plain_plus plain_le plain_size

abbrev pub ranked : Kind (ℕ × ℕ)
ranked = kind (0, 0) ranked_plus ranked_le ranked_size

-- units 0, 1 and 2, each linked by 1 to 3, 4 and 5
abbrev pub three_by_three : List (Link ℕ)
three_by_three = on 0 3 1 ∷ on 0 4 1 ∷ on 0 5 1 ∷ on 1 3 1 ∷ on 1 4 1 ∷ on 1 5 1 ∷ on 2 3 1 ∷ on 2 4 1 ∷ on 2 5 1 ∷ []

abbrev pub plain_cases : List (Worked ℕ)
plain_cases =
    case 4 (on 0 1 3 ∷ on 1 2 1 ∷ on 2 3 4 ∷ on 0 3 2 ∷ []) 3 (0 ∷ 0 ∷ 1 ∷ 1 ∷ []) (entry 0 1 Unbalanced 0 ∷ entry 0 2 Triangle 0 ∷ []) 0
    -- the same with its third link out, with one more link, then without the second, and with another link
    ∷ case 4 (on 0 1 3 ∷ on 1 2 1 ∷ off 2 3 4 ∷ on 0 3 2 ∷ []) 1 (0 ∷ 0 ∷ 1 ∷ 0 ∷ []) (entry 0 1 Heavy 0 ∷ entry 0 2 Heavy 0 ∷ []) 0
    ∷ case 4 (on 0 1 3 ∷ on 1 2 1 ∷ on 2 3 4 ∷ on 0 3 2 ∷ on 2 3 7 ∷ []) 3 (0 ∷ 0 ∷ 1 ∷ 1 ∷ []) (entry 0 1 Unbalanced 0 ∷ entry 0 2 Triangle 0 ∷ []) 0
    ∷ case 4 (on 0 1 3 ∷ on 2 3 4 ∷ on 0 3 2 ∷ on 2 3 7 ∷ []) 2 (0 ∷ 0 ∷ 1 ∷ 1 ∷ []) (entry 0 1 Heavy 0 ∷ entry 0 3 Heavy 0 ∷ []) 0
    ∷ case 4 (on 0 1 3 ∷ on 1 2 1 ∷ on 2 3 4 ∷ on 0 3 2 ∷ on 0 2 1 ∷ []) 4 (0 ∷ 1 ∷ 0 ∷ 0 ∷ []) (entry 0 1 Unbalanced 0 ∷ entry 0 2 Unbalanced 0 ∷ []) 0
    ∷ case 5 (on 0 1 10 ∷ on 1 2 1 ∷ on 2 3 1 ∷ on 3 4 10 ∷ []) 1 (0 ∷ 0 ∷ 1 ∷ 1 ∷ 1 ∷ []) (entry 0 1 Heavy 0 ∷ entry 0 2 Heavy 0 ∷ entry 0 3 Heavy 0 ∷ []) 0
    ∷ case 2 [] 0 (0 ∷ 1 ∷ []) [] 0
    -- ground 4 first
    ∷ case 5 (on 0 3 1 ∷ on 0 4 3 ∷ on 1 3 3 ∷ on 2 3 3 ∷ on 3 4 2 ∷ []) 3 (0 ∷ 1 ∷ 0 ∷ 0 ∷ 0 ∷ []) (entry 0 3 Neighbourhood 0 ∷ entry 0 1 Heavy 0 ∷ entry 0 2 Heavy 0 ∷ []) 0
    -- ground 5 first, with the lowest and with the highest group taken among equals
    ∷ case 6 three_by_three 3 (0 ∷ 1 ∷ 1 ∷ 1 ∷ 1 ∷ 1 ∷ []) (entry 2 5 Scan 1 ∷ entry 0 2 Triangle 0 ∷ entry 0 1 Triangle 0 ∷ entry 0 3 Heavy 0 ∷ []) 1
    ∷ case 6 three_by_three 3 (0 ∷ 1 ∷ 1 ∷ 1 ∷ 1 ∷ 1 ∷ []) (entry 0 3 Scan 1 ∷ entry 0 1 Triangle 0 ∷ entry 0 2 Triangle 0 ∷ entry 0 4 Heavy 0 ∷ []) 1
    -- one scan, three mergers
    ∷ case 6 (on 0 2 3 ∷ on 0 3 3 ∷ on 0 4 2 ∷ on 1 2 1 ∷ on 1 3 2 ∷ on 1 4 2 ∷ on 2 5 3 ∷ on 3 5 3 ∷ on 4 5 3 ∷ []) 5 (0 ∷ 1 ∷ 0 ∷ 0 ∷ 0 ∷ 0 ∷ [])
    (entry 3 5 Scan 1 ∷ entry 3 4 Scan 1 ∷ entry 1 3 Scan 1 ∷ entry 0 1 Heavy 0 ∷ []) 1
    ∷ []

abbrev pub ranked_cases : List (Worked (ℕ × ℕ))
ranked_cases = case 3 (on 0 1 (1, 0) ∷ on 1 2 (0, 9) ∷ on 0 2 (0, 5) ∷ []) (0, 14) (0 ∷ 0 ∷ 1 ∷ []) (entry 0 1 Heavy 0 ∷ []) 0 ∷ []
