use Rattle.std.proofs.Common.{◌≡◌, ℕ, zero, suc, ◌<◌, ◌≤◌, List, [], ◌∷◌, take, refl, ◌∙◌, ⊎_elim, arith}
use Rattle.std.specs.List.{slice_get}
use Rattle.std.proofs.lemmas.Bool.{cases_lt}
use Rattle.queues.specs.Keys.{no_heavier}
use Rattle.queues.proofs.Orders.{ordered}
use Rattle.heaps.specs.Heaped.{placed, standing}
use Rattle.heaps.proofs.Tables.{key_past}
use Rattle.heaps.proofs.Heaviest.{top_heaviest, top_lowest}
use Rattle.heaps.proofs.heap.HeapQueue.top.Goals as goal

first_of : {X : Type 0} (n : ℕ) (xs : List X) → 0 < n → slice_get (take n xs) 0 ≡ slice_get xs 0
first_of zero xs h = absurd (omega arith)
first_of (suc n) [] h = refl
first_of (suc n) (x ∷ xs) h = refl

pub returns : goal.returns
returns g c =
    let w = g.W.Weight in
    let laws = ordered w.value g.met.W.Weight.laws g.met.W.Weight.bounded in
    let q = c.args.self.now in
    let kept = c.requires.kept in
    rw (c.copied.ensures, c.first.ensures.value)
    (⊎_elim
    (λ (some : 0 < q.count).
    let x = kept.agrees.here 0 some in
    rw (first_of q.count q.entries.now some ∙ x.is) (
      some,
      x.is,
      top_heaviest (no_heavier w) laws (standing q) (placed q.places) q.count kept.agrees c.requires.order some x.entry x.is,
      top_lowest (no_heavier w) laws (standing q) (placed q.places) q.count kept.agrees c.requires.order some x.entry x.is,
    ))
    (λ (m : q.count ≤ 0).
    let none : q.count ≡ 0 = omega arith in
    let empty : slice_get (take q.count q.entries.now) 0 ≡ slice_get (take 0 q.entries.now) 0 = rw none in
    rw empty (λ k. key_past (standing q) (placed q.places) q.count k (omega arith)))
    (cases_lt 0 q.count))
