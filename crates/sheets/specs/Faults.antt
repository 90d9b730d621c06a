-- What is wrong with a field, and the first fault of a sheet in the order of its bytes.
use Rattle.std.specs.Prelude.{◌≡◌, ℕ, ◌+◌, not, ◌||◌, List, ◌∷◌, ◌++◌, length, Some, None, Ok, Err, Option, Result, ◌==◌, nat_le, nat_lt}
use Rattle.std.specs.List.{AllByRecursion}
use Rattle.refusals.specs.declared.Refusal.{Refusal}
use Rattle.refusals.specs.declared.Refusal.TheVariants.{NotASheet, UnknownIssue, OtherKind, Truncated, TrailingBytes, Full, NotACode, CodeTaken, NoSuchUnit, SelfLink, NoWeight, OverLimit, BadMark}
use Rattle.weights.specs.declared.weight.Weight.{Ghosts}
use Rattle.weights.specs.Laws.{limit}
use Rattle.codes.specs.Code.{is_code}
use Rattle.plans.specs.Calls.{check, accepted, most_units, most_links, most_total}
use Rattle.plans.specs.Model.{same_text, borne_by_other}
use Rattle.sheets.specs.declared.fault.Fault.{Fault}
use Rattle.sheets.specs.declared.fault.Part.{Part}
use Rattle.sheets.specs.declared.issue.Issue.{Issue}
use Rattle.sheets.specs.Format as format
use Rattle.sheets.specs.Format.{issue_number}
use Rattle.sheets.specs.Fields.{Field, issue_from, magic, issue, kind, units, links, code, first, second, mark, number, weight, end, byte_at, two_at, bytes_at, units_in, links_in, text_in, texts_in, link_place, amount_in, total_in, part_of, place_of, size_of, fields}

-- a refusal as a fault at a place, in a part of the sheet
abbrev pub fault_with : ℕ → Part → Option Refusal → Option Fault
fault_with at where' None = None
fault_with at where' (Some e) = Some (record { refusal = e; place = at; part = where' })

-- the fault of a field of n bytes at an index: it must be whole (4), then right, as the verdict says
abbrev pub fault_at : List ℕ → ℕ → ℕ → Part → Option Refusal → Option Fault
fault_at bs at n where' verdict = fault_with at where' (check (nat_le (at + n) (length bs)) Truncated verdict)

-- the verdict on the first bytes: 1
abbrev pub magic_verdict : List ℕ → Option Refusal
magic_verdict field = check (same_text field format.magic) NotASheet accepted

-- the verdict on the issue: 2
abbrev pub issue_verdict : ℕ → Option Refusal
issue_verdict n = check (n == 1 || n == 2) UnknownIssue accepted

-- the issue with a number, or what its number is refused with
abbrev pub Named : ℕ → Result Issue Refusal → Type 0
Named n (Ok i) = (issue_verdict n ≡ accepted) × (issue_number i ≡ n) × (i ≡ issue_from n)
Named n (Err e) = issue_verdict n ≡ Some e

-- the verdict on the characters of unit k's code, after the codes of the units before it: 7, 8
abbrev pub code_verdict : ℕ → List ℕ → List (List ℕ) → Option Refusal
code_verdict k text earlier = check (is_code text) NotACode (check (not (borne_by_other k text earlier)) CodeTaken accepted)

-- the verdict on a unit's number: 9
abbrev pub end_verdict : ℕ → ℕ → Option Refusal
end_verdict n unit = check (nat_lt unit n) NoSuchUnit accepted

-- the verdict on a link's second unit, after its first: 9, 10
abbrev pub other_verdict : ℕ → ℕ → ℕ → Option Refusal
other_verdict n one unit = check (nat_lt unit n) NoSuchUnit (check (not (one == unit)) SelfLink accepted)

-- the verdict on a weight of an amount, where those of the links before come to `total`: 11, then 12 where it cannot
-- be made or the amounts together pass the limit of a plan
abbrev pub weight_verdict : ℕ → ℕ → Option Refusal
weight_verdict total amount =
    check (not (amount == 0)) NoWeight
    (check (nat_le amount limit) OverLimit
    (check (nat_le (total + amount) most_total) OverLimit
    accepted))

module _ {W : Type 0} (g : Ghosts W) (bs : List ℕ) where
  -- what a whole field is refused with
  abbrev pub wrong : Field → Option Refusal
  wrong magic = magic_verdict (bytes_at bs 0 3)
  wrong issue = issue_verdict (two_at bs 3)
  wrong kind = check (byte_at bs 5 == g.KIND) OtherKind accepted
  wrong units = check (nat_le (units_in bs) most_units) Full accepted
  wrong links = check (nat_le (links_in bs) most_links) Full accepted
  wrong (code k) = code_verdict k (text_in bs k) (texts_in bs k)
  wrong (first k) = end_verdict (units_in bs) (byte_at bs (link_place g bs k))
  wrong (second k) = other_verdict (units_in bs) (byte_at bs (link_place g bs k)) (byte_at bs (link_place g bs k + 1))
  wrong (mark k) = check (nat_lt (byte_at bs (link_place g bs k + 2)) 2) BadMark accepted
  wrong (number k i) = accepted
  wrong (weight k) = weight_verdict (total_in g bs k) (amount_in g bs k)
  wrong end = check (nat_le (length bs) (link_place g bs (links_in bs))) TrailingBytes accepted

  -- the fault of a field, if it has one
  unfoldable pub fault_of : Field → Option Fault
  fault_of f = fault_at bs (place_of g bs f) (size_of g bs f) (part_of f) (wrong f)

  -- none of the fields has a fault
  abbrev pub Faultless : List Field → Type 0
  Faultless fs = AllByRecursion (λ f. fault_of f ≡ None) fs

  -- the first fault of these fields, in their order: one field has it, and no field before that has any
  pub record FirstIn (fs : List Field) (e : Fault) : Type 0 where
    pub before : List Field
    pub field : Field
    pub after : List Field
    pub order : fs ≡ before ++ (field ∷ after)
    pub clear : Faultless before
    pub fault : fault_of field ≡ Some e

  -- the bytes are a right sheet: no field has a fault
  abbrev pub Right : Type 0
  Right = Faultless (fields g bs)

  -- the first fault of the bytes, in their order
  abbrev pub FirstFault : Fault → Type 0
  FirstFault e = FirstIn (fields g bs) e
