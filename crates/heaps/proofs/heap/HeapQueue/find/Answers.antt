use Rattle.std.specs.Bool.{then_some}
use Rattle.std.proofs.Common.{◌≡◌, ℕ, ◌<◌, Bool, eqb, Some, ◌∙◌, sym, ⊎_elim, arith}
use Rattle.std.proofs.lemmas.Bool.{cases_eq, eq-eqb, ne_eqb, le-ltb}
use Rattle.heaps.specs.declared.entry.HeapEntry.{HeapEntry}
use Rattle.heaps.specs.declared.heap.HeapQueue.{HeapQueue}
use Rattle.heaps.specs.Heaped.{placed, standing, Kept, Finds}
use Rattle.heaps.proofs.Tables.{key_past, key_other, key_in}
use Rattle.heaps.proofs.heap.HeapQueue.find.Goals.{then-at-self, else-at-self}
use Rattle.heaps.proofs.heap.HeapQueue.find.Goals as goal

-- an entry at the place of a group is its own, or the group does not wait
own : {W : Type 0} (q : HeapQueue W) (g at : ℕ) (e : HeapEntry W) (same : Bool) → Kept q → placed q.places g ≡ at → at < q.count → standing q at ≡ Some e → same ≡ eqb e.group g → Finds q g (then_some same at)
own q g at e same kept place lt is test =
    ⊎_elim
    (λ (eq : e.group ≡ g). rw (test ∙ eq-eqb e.group g eq) (lt, (e, is, eq, key_in (standing q) (placed q.places) q.count kept.agrees at g e lt is eq)))
    (λ (ne : e.group ≡ g → ⊥). rw (test ∙ ne_eqb e.group g ne) (key_other (standing q) (placed q.places) q.count g e (rw place lt) (rw place is) ne))
    (cases_eq e.group g)

pub returns : goal.returns
returns g c =
    let q = c.args.self.now in
    let group = c.args.group in
    let at = c.in_ok-at.field-0.now in
    let place : placed q.places group ≡ at = sym (c.in_ok-at.ensures.lookup.3.1 0) in
    rw c.then_some.ensures
    (elim c.if-at-self.branch [
      | then-at-self w ↦ own q group at w.entry.result c.if-at-self.then_some c.requires place w.if-at-self.true w.entry.ensures w.then_some-is
      | else-at-self w ↦ rw (w.then_some-is ∙ le-ltb at q.count w.if-at-self.false) (key_past (standing q) (placed q.places) q.count group (omega arith))
    ])
