-- The promise over any list of calls.
use Rattle.std.specs.Prelude.{◌≡◌, ℕ, ◌+◌, ◌<◌, ◌≤◌, Bool, true, false, List, [], map, length, take, Some, slice_index}
use Rattle.std.specs.List.{ContainsAt as Has, AllByRecursion}
use Rattle.weights.specs.declared.weight.Weight.{Ghosts}
use Rattle.cuts.specs.Kinds.{kind_of, AtMost, above}
use Rattle.cuts.specs.Divisions.{Division, weight_of}
use Rattle.cuts.specs.Groups.{Joins}
use Rattle.cuts.specs.Claims.{LeastAt, Alike}
use Rattle.plans.specs.Model.{Model}
use Rattle.plans.specs.Divided.{links_of, side_of}
use Rattle.runs.specs.Steps.{State, Opened, Answer, answer_of, Turn, opened, Follows, Ran}
use Rattle.runs.specs.Replies.{Led, Replies, asked}
use Rattle.runs.specs.declared.call.Call.{Call}
use Rattle.runs.specs.declared.reply.Reply.{Reply}

module _ {W : Type 0} (g : Ghosts W) where
  -- what holds of an answer about the plan m
  pub record RightAnswer (m : Model W) (a : Answer W) : Type 0 where
    -- one mark for each unit, 1 or 0, and 0 for unit 0
    pub size : length a.marks ≡ length m.codes
    pub bytes : (u : ℕ) → u < length m.codes → slice_index a.marks u < 2
    pub unit_0 : side_of a.marks 0 ≡ false
    -- no division weighs less than the figure, and the marked division weighs exactly the figure
    pub least : (D : ℕ → Bool) → Division (length m.codes) D → AtMost (kind_of g) (g.value a.figure) (weight_of (kind_of g) (links_of g m) D)
    pub division : Division (length m.codes) (side_of a.marks)
    pub weighs : weight_of (kind_of g) (links_of g m) (side_of a.marks) ≡ g.value a.figure
    -- there are units - 2 mergers, fewer only where the figure is nothing or marks were kept; each joins two different groups
    -- that then stand, under the lower
    pub few : length a.entries + 2 ≤ length m.codes
    pub all : a.kept ≡ false → above (kind_of g) (g.value a.figure) ≡ true → length a.entries + 2 ≡ length m.codes
    pub joins : Joins (length m.codes) [] a.entries
    -- at the start of the record and after each merger the figure is the least among the degrees of all groups so far and the
    -- weights of all divisions that keep every present group whole
    pub points : (k : ℕ) → k ≤ length a.entries → LeastAt (kind_of g) (length m.codes) (links_of g m) (take k a.entries) (g.value a.figure)

  -- plans with the same number of units and the same joint weight of every two units
  pub record AlikePlans (m o : Model W) : Type 0 where
    pub units : length m.codes ≡ length o.codes
    pub joint : Alike (kind_of g) (length m.codes) (links_of g m) (links_of g o)

  -- a is answered in the turn x, for the plan m
  pub record Says (x : Turn W) (m : Model W) (a : Answer W) : Type 0 where
    pub answer : answer_of x.reply ≡ Some a
    pub about : m ≡ asked g x.plan x.call

  -- the answers of two runs on alike plans state the same figure
  abbrev pub SameFigures : List (Turn W) → List (Turn W) → Type 0
  SameFigures xs ys =
      (x y : Turn W) (m o : Model W) (a b : Answer W) → Has xs x → Has ys y → Says x m a → Says y o b → AlikePlans m o
      → a.figure ≡ b.figure

  -- the promise over the turns of a run
  pub record Promise (turns : List (Turn W)) : Type 0 where
    -- each turn is as the rules have it, kept marks included
    pub follows : (s t : State W) × Opened s × Follows g s turns t
    -- the plan at each call follows from the accepted calls before it
    pub plans : Led g opened turns
    -- and it is the only one that does, by the calls and replies
    pub only : (others : List (Turn W)) → map (λ x. x.call) others ≡ map (λ x. x.call) turns → map (λ x. x.reply) others ≡ map (λ x. x.reply) turns → Led g opened others → others ≡ turns
    -- each call is accepted or refused as the rules say for the plan at that call, and answers are such as the rules allow there
    pub replies : AllByRecursion (λ x. Replies g x.plan x.call x.reply) turns
    -- each answer is right for the plan at its call, for trial with its link out
    pub answers : AllByRecursion (λ x. (m : Model W) (a : Answer W) → Says x m a → RightAnswer m a) turns
    -- any two answers on alike plans state the same figure, in this run
    pub same : SameFigures turns turns
    -- and between this run and any other, whichever queues served and whether marks were kept or not
    pub across : (s t : State W) (calls : List (Call W)) (replies : List (Reply W)) → Opened s → (other : Ran g s calls replies t) → SameFigures turns other.turns

  -- whatever the calls are, from an opened plan on: replies that follow the rules keep the promise
  abbrev pub RunsPromised : Type 0
  RunsPromised = (s t : State W) (calls : List (Call W)) (replies : List (Reply W)) → Opened s → (run : Ran g s calls replies t) → Promise run.turns
