-- What each call may reply and leave behind, by the state that it finds, and so a run of calls.
use Rattle.std.specs.Prelude.{◌≡◌, ℕ, Bool, true, false, ◌&&◌, ◌⊎◌, List, [], ◌∷◌, map, length, take, Some, None, vec_items, Option, ◌==◌}
use Rattle.refusals.specs.declared.Refusal.{Refusal}
use Rattle.weights.specs.declared.weight.Weight.{Ghosts}
use Rattle.cuts.specs.declared.entry.Entry.{Entry}
use Rattle.cuts.specs.Kinds.{kind_of}
use Rattle.cuts.specs.Divisions.{weight_of}
use Rattle.cuts.specs.Outcomes.{Outcome}
use Rattle.plans.specs.Model.{Model, entered, recoded, linked, struck, reweighed, marked}
use Rattle.plans.specs.Calls.{enter_verdict, recode_verdict, link_verdict, strike_verdict, reweigh_verdict, mark_verdict, after_of}
use Rattle.plans.specs.Divided.{links_of, side_of, weigh_verdict, weighed}
use Rattle.sheets.specs.declared.fault.Fault.{Fault}
use Rattle.sheets.specs.declared.issue.Issue.{Issue}
use Rattle.sheets.specs.Faults.{Right, FirstFault}
use Rattle.sheets.specs.Format.{sheet_of, Valid}
use Rattle.writers.specs.Written.{sheet_in, write_verdict}
use Rattle.filings.specs.Edits.{stays, entering, recoding, linking, striking, reweighing, marking}
use Rattle.answers.specs.Answered.{weakest_verdict, trial_verdict}
use Rattle.runs.specs.declared.call.Call.{Call}
use Rattle.runs.specs.declared.call.Call.TheVariants as call
use Rattle.runs.specs.declared.reply.Reply.{Reply}
use Rattle.runs.specs.declared.reply.Reply.TheVariants as reply

-- the plan, whether marks are kept, and the side of each unit where they are
pub record State (W : Type 0) : Type 0 where
  pub plan : Model W
  pub kept : Bool
  pub sides : List ℕ

-- an opened plan has no units and no links
abbrev pub opened : {W : Type 0} → Model W
opened = record { codes = []; links = [] }

-- the state at the start: an opened plan, and no kept marks
abbrev pub Opened : {W : Type 0} → State W → Type 0
Opened s = (s.plan ≡ opened) × (s.kept ≡ false)

-- what weakest and trial answer: figure, marks, record, number of scans, and whether these are kept marks
pub record Answer (W : Type 0) : Type 0 where
  pub figure : W
  pub marks : List ℕ
  pub entries : List Entry
  pub scans : ℕ
  pub kept : Bool

-- a reply that is an answer
abbrev pub answer_of : {W : Type 0} → Reply W → Option (Answer W)
answer_of (reply.Entered k) = None
answer_of (reply.Linked k) = None
answer_of reply.Done = None
answer_of (reply.Weighed w) = None
answer_of (reply.Written v) = None
answer_of (reply.Answered w v es n b) = Some (record { figure = w; marks = vec_items v; entries = vec_items es; scans = n; kept = b })
answer_of (reply.Refused e) = None
answer_of (reply.Faulty e) = None

-- the reply to a call with this verdict: the answer where it is accepted
abbrev pub reply_to : {W : Type 0} → Option Refusal → Reply W → Reply W
reply_to None answer = answer
reply_to (Some e) answer = reply.Refused e

-- the same where the answer is known by what holds of it
abbrev pub Judged : {W : Type 0} → Option Refusal → (Reply W → Type 0) → Reply W → Type 0
Judged None P r = P r
Judged (Some e) P r = r ≡ reply.Refused e

-- the reply is a weight of that value, or a sheet of those bytes
abbrev pub Weighs : {W : Type 0} → (g : Ghosts W) → g.Value → Reply W → Type 0
Weighs {W} g v r = (w : W) × (r ≡ reply.Weighed w) × (g.value w ≡ v)

abbrev pub bytes_of : {W : Type 0} → Reply W → Option (List ℕ)
bytes_of (reply.Entered k) = None
bytes_of (reply.Linked k) = None
bytes_of reply.Done = None
bytes_of (reply.Weighed w) = None
bytes_of (reply.Written v) = Some (vec_items v)
bytes_of (reply.Answered w v es n b) = None
bytes_of (reply.Refused e) = None
bytes_of (reply.Faulty e) = None

module _ {W : Type 0} (g : Ghosts W) where
  -- An edit makes the plan `next`, and marks that are kept stay where `stay` says so; a refused one leaves all as it was.
  pub record Edits (verdict : Option Refusal) (answer : Reply W) (next : Model W) (stay : Bool) (s : State W) (r : Reply W) (t : State W) : Type 0 where
    pub replied : r ≡ reply_to verdict answer
    pub left : t ≡ after_of verdict (record { plan = next; kept = s.kept && stay; sides = s.sides }) s

  -- a question changes nothing
  pub record Asks (verdict : Option Refusal) (answers : Reply W → Type 0) (s : State W) (r : Reply W) (t : State W) : Type 0 where
    pub replied : Judged verdict answers r
    pub left : t ≡ s

  -- the bytes are the sheet, in one of the issues, of a plan within the rules
  abbrev pub SheetOf : List ℕ → Model W → Type 0
  SheetOf bytes m = (issue : Issue) × Valid g issue m × (bytes ≡ sheet_of g issue m)

  -- an accepted reading: no field has a fault, the plan is the one whose sheet was read, and no marks are kept
  pub record Takes (bytes : List ℕ) (r : Reply W) (t : State W) : Type 0 where
    pub replied : r ≡ reply.Done
    pub right : Right g bytes
    pub sheet : SheetOf bytes t.plan
    pub none : t.kept ≡ false

  -- a refused one: the first fault, with number, place and part
  pub record Faults (bytes : List ℕ) (s : State W) (r : Reply W) (t : State W) : Type 0 where
    pub fault : Fault
    pub first : FirstFault g bytes fault
    pub replied : r ≡ reply.Faulty fault
    pub left : t ≡ s

  -- an answer that was worked out for the plan m: one mark for each unit, and a record that the rules allow
  pub record Worked (m : Model W) (a : Answer W) : Type 0 where
    pub new : a.kept ≡ false
    pub size : length a.marks ≡ length m.codes
    pub allowed : Outcome (kind_of g) (length m.codes) (links_of g m) (g.value a.figure) a.marks a.entries a.scans

  -- kept marks are answered with their present weight, without record and scans
  pub record Remembered (s : State W) (a : Answer W) (t : State W) : Type 0 where
    pub old : a.kept ≡ true
    pub size : length a.marks ≡ length s.plan.codes
    pub marks : a.marks ≡ take (length s.plan.codes) s.sides
    pub figure : g.value a.figure ≡ weight_of (kind_of g) (links_of g s.plan) (side_of s.sides)
    pub entries : a.entries ≡ []
    pub scans : a.scans ≡ 0
    pub left : t ≡ s

  -- an answer that was worked out is kept
  pub record Kept (s : State W) (a : Answer W) (t : State W) : Type 0 where
    pub worked : Worked s.plan a
    pub plan : t.plan ≡ s.plan
    pub kept : t.kept ≡ true
    pub sides : take (length s.plan.codes) t.sides ≡ a.marks

  -- weakest answers kept marks, if there are any
  abbrev pub Finds : Bool → State W → Answer W → State W → Type 0
  Finds true s a t = Remembered s a t
  Finds false s a t = Kept s a t

  -- trial answers for the plan with its link out, and never from kept marks
  abbrev pub Tries : ℕ → State W → Answer W → State W → Type 0
  Tries k s a t = Worked (marked k false s.plan) a × (t ≡ s)

  abbrev pub Answers : Option Refusal → (Answer W → State W → Type 0) → State W → Reply W → State W → Type 0
  Answers None P s r t = (a : Answer W) × (answer_of r ≡ Some a) × P a t
  Answers (Some e) P s r t = (r ≡ reply.Refused e) × (t ≡ s)

  -- what a call may do: the state that it finds, the call, the reply and the state that it leaves
  abbrev pub Step : State W → Call W → Reply W → State W → Type 0
  Step s (call.Enter v) r t =
      let m = s.plan in
      Edits (enter_verdict m (vec_items v)) (reply.Entered (length m.codes)) (entered (vec_items v) m) (stays g m s.sides entering) s r t
  Step s (call.Recode k v) r t =
      let m = s.plan in
      Edits (recode_verdict m k (vec_items v)) reply.Done (recoded k (vec_items v) m) (stays g m s.sides recoding) s r t
  Step s (call.Link a b w) r t =
      let m = s.plan in
      Edits (link_verdict m g a b w) (reply.Linked (length m.links)) (linked (record { first = a; second = b; in_service = true; weight = w }) m) (stays g m s.sides (linking a b)) s r t
  Step s (call.Strike k) r t =
      let m = s.plan in
      Edits (strike_verdict m k) reply.Done (struck k m) (stays g m s.sides (striking k)) s r t
  Step s (call.Reweigh k w) r t =
      let m = s.plan in
      Edits (reweigh_verdict m g k w) reply.Done (reweighed k w m) (stays g m s.sides (reweighing k w)) s r t
  Step s (call.Mark k b) r t =
      let m = s.plan in
      Edits (mark_verdict m k b) reply.Done (marked k (b == 1) m) (stays g m s.sides (marking k b)) s r t
  Step s (call.Weigh v) r t = Asks (weigh_verdict s.plan (vec_items v)) (Weighs g (weighed g s.plan (vec_items v))) s r t
  Step s (call.Read v) r t = Takes (vec_items v) r t ⊎ Faults (vec_items v) s r t
  Step s (call.Write issue room) r t = Asks (write_verdict g s.plan issue room) (λ q. bytes_of q ≡ Some (sheet_in g s.plan issue)) s r t
  Step s (call.Weakest l) r t = Answers (weakest_verdict s.plan l.marks l.entries l.weights) (Finds s.kept s) s r t
  Step s (call.Trial k l) r t = Answers (trial_verdict s.plan k l.marks l.entries l.weights) (Tries k s) s r t

-- one turn of a run: the plan at the call, the call, and the reply
pub record Turn (W : Type 0) : Type 0 where
  pub plan : Model W
  pub call : Call W
  pub reply : Reply W

-- the turns of a run that begins in the state s and ends in t, each as the rules have it
abbrev pub Follows : {W : Type 0} → Ghosts W → State W → List (Turn W) → State W → Type 0
Follows g s [] t = s ≡ t
Follows {W} g s (x ∷ xs) t = (x.plan ≡ s.plan) × ((u : State W) × Step g s x.call x.reply u × Follows g u xs t)

-- the calls, from the state s on, are replied to so and leave t, in these turns
pub record Ran {W : Type 0} (g : Ghosts W) (s : State W) (calls : List (Call W)) (replies : List (Reply W)) (t : State W) : Type 0 where
  pub turns : List (Turn W)
  pub calls_are : map (λ x. x.call) turns ≡ calls
  pub replies_are : map (λ x. x.reply) turns ≡ replies
  pub follows : Follows g s turns t
