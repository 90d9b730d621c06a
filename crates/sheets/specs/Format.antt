-- The sheet of a plan: its bytes, from the plan and the issue.
use Rattle.std.specs.Prelude.{◌≡◌, ℕ, zero, suc, ◌+◌, ◌*◌, ◌/◌, ◌%◌, ◌≤◌, true, cond, List, [], ◌∷◌, ◌++◌, length, ◌==◌}
use Rattle.std.specs.List.{flat_map, AllByRecursion}
use Rattle.weights.specs.declared.weight.Weight.{Ghosts}
use Rattle.codes.specs.Code.{is_code}
use Rattle.plans.specs.declared.plan.Link.{Link}
use Rattle.plans.specs.Calls.{most_units, most_links, most_total}
use Rattle.plans.specs.Model.{Model, total_of}
use Rattle.plans.specs.Sound.{Distinct, Joins}
use Rattle.sheets.specs.declared.issue.Issue.{Issue}
use Rattle.sheets.specs.declared.issue.Issue.TheVariants.{First, Second}

abbrev pub issue_number : Issue → ℕ
issue_number First = 1
issue_number Second = 2

-- a code takes six bytes in issue 1 and seven in issue 2
abbrev pub size_of_code : Issue → ℕ
size_of_code First = 6
size_of_code Second = 7

-- `HNW`
abbrev pub magic : List ℕ
magic = 72 ∷ 78 ∷ 87 ∷ []

-- a number of two bytes, low byte first
abbrev pub two : ℕ → List ℕ
two n = n % 256 ∷ n / 256 % 256 ∷ []

-- a number of four bytes, low byte first
abbrev pub four : ℕ → List ℕ
four n = n % 256 ∷ n / 256 % 256 ∷ n / 65536 % 256 ∷ n / 16777216 % 256 ∷ []

-- in issue 2 a code of six characters is closed by a zero byte
abbrev pub code_field : Issue → List ℕ → List ℕ
code_field First text = text
code_field Second text = cond (length text == 6) (text ++ (0 ∷ [])) text

-- numbers in fields of four bytes: the first n values of f
abbrev pub fours : (ℕ → ℕ) → ℕ → List ℕ
fours f zero = []
fours f (suc n) = fours f n ++ four (f n)

module _ {W : Type 0} (g : Ghosts W) where
  -- magic, issue, kind byte, number of units and number of links: nine bytes
  abbrev pub bytes_of_head : Issue → ℕ → ℕ → List ℕ
  bytes_of_head issue units links = magic ++ (two (issue_number issue) ++ (g.KIND ∷ units ∷ two links))

  -- a link takes two ends, a mark and four bytes for each part
  abbrev pub link_size : ℕ
  link_size = 3 + 4 * g.PARTS

  -- a link: unit, unit, mark (1 in service, 0 out), and the parts of the weight
  abbrev pub link_bytes : Link W → List ℕ
  link_bytes l = l.first ∷ l.second ∷ cond l.in_service 1 0 ∷ fours (g.nth (g.value l.weight)) g.PARTS

  -- the sheet: head, codes, links
  abbrev pub sheet_of : Issue → Model W → List ℕ
  sheet_of issue m =
      bytes_of_head issue (length m.codes) (length m.links)
      ++ (flat_map (code_field issue) m.codes ++ flat_map link_bytes m.links)

  -- a plan within the rules that can stand in a sheet of the issue
  pub record Valid (issue : Issue) (m : Model W) : Type 0 where
    pub few : length m.codes ≤ most_units
    pub short : length m.links ≤ most_links
    pub codes : AllByRecursion (λ text. is_code text ≡ true) m.codes
    pub fit : AllByRecursion (λ text. length text ≤ size_of_code issue) m.codes
    pub distinct : Distinct m.codes
    pub joins : AllByRecursion (Joins g (length m.codes)) m.links
    pub limited : total_of g m.links ≤ most_total
