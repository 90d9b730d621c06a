-- The bytes of a sheet as fields, each by the index of its first byte. Every function here looks at bytes by their
-- index; a byte past the end counts as 0, and what it would say matters to no fault, as an earlier field is not whole.
use Rattle.std.specs.Prelude.{ℕ, zero, suc, ◌+◌, ◌*◌, cond, List, [], ◌∷◌, ◌++◌, take, drop, ◌==◌, slice_index}
use Rattle.weights.specs.declared.weight.Weight.{Ghosts}
use Rattle.sheets.specs.declared.issue.Issue.{Issue}
use Rattle.sheets.specs.declared.issue.Issue.TheVariants.{First, Second}
use Rattle.sheets.specs.declared.fault.Part.{Part}
use Rattle.sheets.specs.declared.fault.Part.TheVariants as part
use Rattle.sheets.specs.Format.{size_of_code, link_size}

-- numbers of one, two and four bytes, low byte first
abbrev pub byte_at : List ℕ → ℕ → ℕ
byte_at bs at = slice_index bs at

abbrev pub two_at : List ℕ → ℕ → ℕ
two_at bs at = byte_at bs at + byte_at bs (at + 1) * 256

abbrev pub four_at : List ℕ → ℕ → ℕ
four_at bs at = byte_at bs at + byte_at bs (at + 1) * 256 + byte_at bs (at + 2) * 65536 + byte_at bs (at + 3) * 16777216

-- the next n bytes from an index on
abbrev pub bytes_at : List ℕ → ℕ → ℕ → List ℕ
bytes_at bs at n = take n (drop at bs)

-- the characters in a code's field: in issue 2 a zero byte closes a code of six
abbrev pub text_of : Issue → List ℕ → List ℕ
text_of First field = field
text_of Second field = cond (slice_index field 6 == 0) (take 6 field) field

-- the issue with a number; any other than 1 and 2 is refused in the head
abbrev pub issue_from : ℕ → Issue
issue_from n = cond (n == 1) First Second

module _ (bs : List ℕ) where
  -- what the head says: the issue, and how many units and links there are
  abbrev pub issue_in : Issue
  issue_in = issue_from (two_at bs 3)

  abbrev pub units_in : ℕ
  units_in = byte_at bs 6

  abbrev pub links_in : ℕ
  links_in = two_at bs 7

  -- where the code of unit k stands, and its characters
  abbrev pub code_place : ℕ → ℕ
  code_place k = 9 + k * size_of_code issue_in

  abbrev pub text_in : ℕ → List ℕ
  text_in k = text_of issue_in (bytes_at bs (code_place k) (size_of_code issue_in))

  -- the codes of the first n units
  abbrev pub texts_in : ℕ → List (List ℕ)
  texts_in zero = []
  texts_in (suc n) = texts_in n ++ (text_in n ∷ [])

-- the fields of a sheet; a link's weight is judged when all its numbers are whole
pub data Field : Type 0 where
  magic : Field
  issue : Field
  kind : Field
  units : Field
  links : Field
  code : ℕ → Field
  first : ℕ → Field
  second : ℕ → Field
  mark : ℕ → Field
  number : ℕ → ℕ → Field
  weight : ℕ → Field
  end : Field

-- the part of the sheet that a field is in
abbrev pub part_of : Field → Part
part_of magic = part.Head
part_of issue = part.Head
part_of kind = part.Head
part_of units = part.Head
part_of links = part.Head
part_of (code k) = part.Unit k
part_of (first k) = part.Link k
part_of (second k) = part.Link k
part_of (mark k) = part.Link k
part_of (number k i) = part.Link k
part_of (weight k) = part.Link k
part_of end = part.End

-- f 0, f 1, up to n of them, one after the other
abbrev pub through : (ℕ → List Field) → ℕ → List Field
through f zero = []
through f (suc n) = through f n ++ f n

abbrev pub head_fields : List Field
head_fields = magic ∷ issue ∷ kind ∷ units ∷ links ∷ []

-- the codes of the first n units
abbrev pub code_fields : ℕ → List Field
code_fields n = through (λ k. code k ∷ []) n

-- the first n numbers of link k's weight
abbrev pub number_fields : ℕ → ℕ → List Field
number_fields k n = through (λ i. number k i ∷ []) n

module _ {W : Type 0} (g : Ghosts W) (bs : List ℕ) where
  -- where link k stands, and number i of its weight
  abbrev pub link_place : ℕ → ℕ
  link_place k = code_place bs (units_in bs) + k * link_size g

  abbrev pub number_place : ℕ → ℕ → ℕ
  number_place k i = link_place k + 3 + 4 * i

  -- the weight of link k, its amount, and the amounts of the first n links together
  abbrev pub weight_in : ℕ → g.Value
  weight_in k = g.of (λ i. four_at bs (number_place k i))

  abbrev pub amount_in : ℕ → ℕ
  amount_in k = g.size (weight_in k)

  abbrev pub total_in : ℕ → ℕ
  total_in zero = 0
  total_in (suc n) = total_in n + amount_in n

  -- the index of a field's first byte
  abbrev pub place_of : Field → ℕ
  place_of magic = 0
  place_of issue = 3
  place_of kind = 5
  place_of units = 6
  place_of links = 7
  place_of (code k) = code_place bs k
  place_of (first k) = link_place k
  place_of (second k) = link_place k + 1
  place_of (mark k) = link_place k + 2
  place_of (number k i) = number_place k i
  place_of (weight k) = number_place k 0
  place_of end = link_place (links_in bs)

  -- how many bytes a field has
  abbrev pub size_of : Field → ℕ
  size_of magic = 3
  size_of issue = 2
  size_of kind = 1
  size_of units = 1
  size_of links = 2
  size_of (code k) = size_of_code (issue_in bs)
  size_of (first k) = 1
  size_of (second k) = 1
  size_of (mark k) = 1
  size_of (number k i) = 4
  size_of (weight k) = 4 * g.PARTS
  size_of end = 0

  abbrev pub link_fields : ℕ → List Field
  link_fields k = first k ∷ second k ∷ mark k ∷ (number_fields k g.PARTS ++ (weight k ∷ []))

  -- all fields, in the order of the bytes
  unfoldable pub fields : List Field
  fields = head_fields ++ (code_fields (units_in bs) ++ (through link_fields (links_in bs) ++ (end ∷ [])))
