-- The entry at the top of a heap is a heaviest one, and of these that of the lowest group.
use Rattle.std.proofs.Common.{◌≡◌, ℕ, ◌<◌, Bool, false, Some, None, Option, refl, ⊎_elim, arith}
use Rattle.queues.specs.Keys.{Heaviest}
use Rattle.queues.proofs.Orders.{Ordered}
use Rattle.heaps.specs.declared.entry.HeapEntry.{HeapEntry}
use Rattle.heaps.specs.Tree.{InOrder}
use Rattle.heaps.specs.Entries.{before}
use Rattle.heaps.specs.Heaped.{key_under, Agrees, Lowest}
use Rattle.heaps.proofs.Ranks.{entry_ranks, before_le, before_lowest}
use Rattle.queues.proofs.Looking.{clash}
use Rattle.heaps.proofs.Order.{one, top_first}
use Rattle.heaps.proofs.Tables.{Spot, spot, key_in}
use Rattle.heaps.proofs.Changes.{agrees_at}

module _ {W : Type 0} (le : W → W → Bool) (laws : Ordered le) (at : ℕ → Option (HeapEntry W)) (place : ℕ → ℕ) (n : ℕ) (agrees : Agrees at place n) (order : InOrder (before le) at n) (some : 0 < n) (e : HeapEntry W) (top : at 0 ≡ Some e) where
  -- what waits need not come before the top
  waits_after : (h : ℕ) (v : W) → key_under at place n h ≡ Some v → (x : HeapEntry W) × (x.group ≡ h) × (x.key ≡ v) × (before le x e ≡ false)
  waits_after h v is = ⊎_elim
      (λ (s : Spot at n h). (
        s.entry,
        s.own,
        one (key_in at place n agrees s.place h s.entry s.under s.is s.own) is,
        top_first (before le) (entry_ranks le laws) at n order (λ j lt. let x = agrees.here j lt in (x.entry, x.is)) s.place s.under e s.entry top s.is,
      ))
      (λ (none : key_under at place n h ≡ None). clash is none)
      (spot at place n h)

  pub top_heaviest : Heaviest le (key_under at place n) e.group e.key
  top_heaviest = record {
    group = (agrees_at at place n agrees 0 e some top).0;
    here = key_in at place n agrees 0 e.group e some top refl;
    most = λ h v is. let x = waits_after h v is in rw x.2 at (before_le le laws x.0 e x.3);
  }

  pub top_lowest : Lowest le (key_under at place n) e.group e.key
  top_lowest h v is as-heavy =
      let x = waits_after h v is in
      let own = x.1 in
      let low = before_lowest le laws x.0 e x.3 (rw x.2 as-heavy) in
      omega arith
