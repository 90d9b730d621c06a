-- From an outcome of the work over the links of a table to the answer of a plan.
use Rattle.std.proofs.Common.{◌≡◌, ℕ, ◌*◌, ◌<◌, ◌≤◌, false, List, [], ◌∷◌, length, take, drop, sym, ◌∙◌, subst, arith}
use Rattle.weights.specs.declared.weight.Weight.{Ghosts}
use Rattle.cuts.specs.declared.entry.Entry.{Entry}
use Rattle.cuts.specs.Kinds.{kind_of, Lawful}
use Rattle.cuts.specs.Links.{Link as Joint, Sound as Light}
use Rattle.cuts.specs.Outcomes.{Outcome}
use Rattle.cuts.proofs.Outcomes.{outcome_promised}
use Rattle.std.specs.List.{AllWithin}
use Rattle.plans.specs.declared.plan.Link.{Link}
use Rattle.plans.specs.Divided.{links_of}
use Rattle.plans.specs.Model.{Model}
use Rattle.plans.specs.Sound.{Joins}
use Rattle.contractions.specs.Progress.{Room}
use Rattle.solvers.specs.declared.answer.Answer.{Answer}
use Rattle.solvers.specs.Answers.{WorkedOut, LeftBehind}

module _ {W : Type 0} (g : Ghosts W) where
  -- the table was that of the plan's links
  pub worked : Lawful (kind_of g) → (m : Model W) (n : ℕ) → n ≡ length m.codes → (ls : List (Joint g.Value)) → ls ≡ links_of g m → Light (kind_of g) n ls → 2 ≤ n
      → (answer : Answer W) (marks : List ℕ) (entries : List Entry) → answer.kept ≡ false → answer.mergers ≤ n → n ≤ length entries
      → Outcome (kind_of g) n ls (g.value answer.figure) marks (take answer.mergers entries) answer.scans → WorkedOut g m answer marks entries
  worked laws m n units ls links light two answer marks entries new few room outcome =
      let K = kind_of g in
      let v = g.value answer.figure in
      let record' = take answer.mergers entries in
      let allowed : Outcome K (length m.codes) (links_of g m) v marks record' answer.scans = rw units at (rw links at outcome) in
      let light' : Light K (length m.codes) (links_of g m) = rw units at (rw links at light) in
      record {
        new = new;
        room = omega arith;
        allowed = allowed;
        promised = outcome_promised K laws (length m.codes) (links_of g m) light' (omega arith) v marks record' answer.scans allowed;
      }

  -- what was left behind, seen from before the table was filled
  pub left_behind : (n k mergers : ℕ) → n ≡ k → (ws filled ws' : List W) (ms ms' : List ℕ) (es es' : List Entry) → drop (n * n) filled ≡ drop (n * n) ws → LeftBehind g n mergers filled ws' ms ms' es es' → LeftBehind g k mergers ws ws' ms ms' es es'
  left_behind n k mergers units ws filled ws' ms ms' es es' rest left =
      subst (λ i. LeftBehind g i mergers ws ws' ms ms' es es') units
      (record { nothing = left.nothing; spared = record { weights = left.spared.weights ∙ rest; marks = left.spared.marks; entries = left.spared.entries } })

  pub room_for : (n k : ℕ) → n ≡ k → (ws filled : List W) (ms : List ℕ) (es : List Entry) → length filled ≡ length ws → Room k ws ms es → Room n filled ms es
  room_for n k units ws filled ms es size room =
      let r = subst (λ i. Room i ws ms es) (sym units) room in
      record { most = r.most; weights = let h = r.weights in omega arith; marks = r.marks; entries = r.entries }

-- a link joins two units, so a plan that has a link has two units
pub joined_two : {W : Type 0} (g : Ghosts W) (n : ℕ) (ls : List (Link W)) (k : ℕ) → k < length ls → AllWithin (Joins g n) ls 0 (length ls) → 2 ≤ n
joined_two g n [] k lt joins = absurd (omega arith)
joined_two g n (x ∷ xs) k lt joins = let j = joins k x (omega arith) lt in let a = j.first in let b = j.second in let apart = j.apart in grind arith
