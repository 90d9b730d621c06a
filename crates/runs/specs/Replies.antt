-- The plan at each call of a run, and the reply that the rules give to a call at that plan; kept marks aside.
use Rattle.std.specs.Prelude.{◌≡◌, Bool, true, false, ◌⊎◌, List, [], ◌∷◌, length, Some, vec_items, ◌==◌}
use Rattle.weights.specs.declared.weight.Weight.{Ghosts}
use Rattle.plans.specs.Model.{Model, entered, recoded, linked, struck, reweighed, marked}
use Rattle.plans.specs.Calls.{enter_verdict, recode_verdict, link_verdict, strike_verdict, reweigh_verdict, mark_verdict}
use Rattle.plans.specs.Divided.{weigh_verdict, weighed}
use Rattle.sheets.specs.declared.fault.Fault.{Fault}
use Rattle.sheets.specs.Faults.{Right, FirstFault}
use Rattle.writers.specs.Written.{sheet_in, write_verdict}
use Rattle.answers.specs.Answered.{weakest_verdict, trial_verdict}
use Rattle.runs.specs.Steps.{Answer, answer_of, bytes_of, reply_to, Judged, Weighs, Worked, SheetOf, Turn}
use Rattle.runs.specs.declared.call.Call.{Call}
use Rattle.runs.specs.declared.call.Call.TheVariants as call
use Rattle.runs.specs.declared.reply.Reply.{Reply}
use Rattle.runs.specs.declared.reply.Reply.TheVariants as reply

-- whether the reply is a refusal
abbrev pub refuses : {W : Type 0} → Reply W → Bool
refuses (reply.Entered k) = false
refuses (reply.Linked k) = false
refuses reply.Done = false
refuses (reply.Weighed w) = false
refuses (reply.Written v) = false
refuses (reply.Answered w v es n b) = false
refuses (reply.Refused e) = true
refuses (reply.Faulty e) = true

module _ {W : Type 0} (g : Ghosts W) where
  -- the plan after an accepted call, by its arguments; a sheet is that of one plan
  abbrev pub Becomes : Model W → Call W → Model W → Type 0
  Becomes m (call.Enter v) next = next ≡ entered (vec_items v) m
  Becomes m (call.Recode k v) next = next ≡ recoded k (vec_items v) m
  Becomes m (call.Link a b w) next = next ≡ linked (record { first = a; second = b; in_service = true; weight = w }) m
  Becomes m (call.Strike k) next = next ≡ struck k m
  Becomes m (call.Reweigh k w) next = next ≡ reweighed k w m
  Becomes m (call.Mark k b) next = next ≡ marked k (b == 1) m
  Becomes m (call.Weigh v) next = next ≡ m
  Becomes m (call.Read v) next = SheetOf g (vec_items v) next
  Becomes m (call.Write issue room) next = next ≡ m
  Becomes m (call.Weakest l) next = next ≡ m
  Becomes m (call.Trial k l) next = next ≡ m

  -- the plan after a call; a refused one leaves it
  abbrev pub After : Bool → Model W → Call W → Model W → Type 0
  After true m c next = next ≡ m
  After false m c next = Becomes m c next

  -- from the plan m on, the plan at each call follows from the calls before it
  abbrev pub Led : Model W → List (Turn W) → Type 0
  Led m [] = Unit {0}
  Led m (x ∷ xs) = (x.plan ≡ m) × ((next : Model W) × After (refuses x.reply) m x.call next × Led next xs)

  -- an answer that the rules allow for the plan m: it was worked out, or kept marks are answered, with no record
  abbrev pub Allowed : Model W → Answer W → Type 0
  Allowed m a = Worked g m a ⊎ ((a.kept ≡ true) × (a.entries ≡ []) × (a.scans ≡ 0))

  -- the reply is an answer of which P holds
  abbrev pub Answered : (Answer W → Type 0) → Reply W → Type 0
  Answered P r = (a : Answer W) × (answer_of r ≡ Some a) × P a

  -- the reply that the rules give to a call at the plan m: accepted, or refused with this number
  abbrev pub Replies : Model W → Call W → Reply W → Type 0
  Replies m (call.Enter v) r = r ≡ reply_to (enter_verdict m (vec_items v)) (reply.Entered (length m.codes))
  Replies m (call.Recode k v) r = r ≡ reply_to (recode_verdict m k (vec_items v)) reply.Done
  Replies m (call.Link a b w) r = r ≡ reply_to (link_verdict m g a b w) (reply.Linked (length m.links))
  Replies m (call.Strike k) r = r ≡ reply_to (strike_verdict m k) reply.Done
  Replies m (call.Reweigh k w) r = r ≡ reply_to (reweigh_verdict m g k w) reply.Done
  Replies m (call.Mark k b) r = r ≡ reply_to (mark_verdict m k b) reply.Done
  Replies m (call.Weigh v) r = Judged (weigh_verdict m (vec_items v)) (Weighs g (weighed g m (vec_items v))) r
  Replies m (call.Read v) r = (Right g (vec_items v) × (r ≡ reply.Done)) ⊎ ((e : Fault) × FirstFault g (vec_items v) e × (r ≡ reply.Faulty e))
  Replies m (call.Write issue room) r = Judged (write_verdict g m issue room) (λ q. bytes_of q ≡ Some (sheet_in g m issue)) r
  Replies m (call.Weakest l) r = Judged (weakest_verdict m l.marks l.entries l.weights) (Answered (Allowed m)) r
  Replies m (call.Trial k l) r = Judged (trial_verdict m k l.marks l.entries l.weights) (Answered (Worked g (marked k false m))) r

  -- the plan that an answer is about: for trial its link is out
  abbrev pub asked : Model W → Call W → Model W
  asked m (call.Enter v) = m
  asked m (call.Recode k v) = m
  asked m (call.Link a b w) = m
  asked m (call.Strike k) = m
  asked m (call.Reweigh k w) = m
  asked m (call.Mark k b) = m
  asked m (call.Weigh v) = m
  asked m (call.Read v) = m
  asked m (call.Write issue room) = m
  asked m (call.Weakest l) = m
  asked m (call.Trial k l) = marked k false m
