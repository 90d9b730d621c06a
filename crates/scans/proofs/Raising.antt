-- What holds in the turn of a group that was taken, as the groups that wait are raised one after another.
use Rattle.std.proofs.Common.{◌≡◌, ℕ, ◌+◌, ◌<◌, ◌≤◌, Bool, true, false, List, [], ◌∷◌, ◌++◌, get_or, Some, None, Ok, Err, Option, Result, sym, refl, ap, ◌∙◌, subst, ⊎_elim, ap₂, subst₂, append-nil, arith}
use Rattle.std.proofs.lemmas.Bool.{cond-true, both_ways}
use Rattle.weights.specs.declared.weight.Weight.{Ghosts}
use Rattle.weights.specs.Laws.{limit}
use Rattle.cuts.specs.declared.entry.Entry.{Entry}
use Rattle.cuts.specs.Kinds.{kind_of, Lawful}
use Rattle.cuts.specs.Links.{Link}
use Rattle.cuts.specs.Groups.{joint}
use Rattle.cuts.specs.Scans.{has, key, raised, finds}
use Rattle.cuts.proofs.Facts.{key_more}
use Rattle.cuts.proofs.Names.{stands_less}
use Rattle.refusals.specs.declared.Refusal.{Refusal}
use Rattle.queues.specs.Keys.{Raised}
use Rattle.tables.specs.Meaning.{at}
use Rattle.scans.specs.declared.found.Found.{Found}
use Rattle.scans.specs.Scanned.{Notes}
use Rattle.scans.specs.Waits.{Above, Waits, comes_to}
use Rattle.scans.proofs.Waiting.{waits_here, waits_some, waits_change, waits_same}
use Rattle.scans.proofs.Turns.{Keyed, rest, Turn, rest_stands, rest_apart, mixed, mixed_old, mixed_new, mixed_apart, mixed_same, finds_not, finds_one, gone_not, light_not, short_not, reached_is, raise_fits, unraised}

-- the groups below w are raised, and the pairs found with them are noted after those noted first
pub record Raising {W : Type 0} (m : Ghosts W) (n : ℕ) (ls : List (Link m.Value)) (es : List Entry) (taken : List ℕ) (v : ℕ) (bound : m.Value) (first : Found) (keys : ℕ → Option W) (f : Found) (w : ℕ) : Type 0 where
  pub waits : Waits m.value keys (rest n es (v ∷ taken)) (mixed (kind_of m) n ls es v taken w)
  pub notes : (before : List (ℕ × ℕ)) → Notes n before first → Notes n (before ++ finds (kind_of m) n ls es bound v taken w) f

module _ {W : Type 0} {m : Ghosts W} {n : ℕ} {ls : List (Link m.Value)} {es : List Entry} {taken : List ℕ} {v : ℕ} {table : List W} {start : ℕ → Option W} {marks : List Bool} (laws : Lawful (kind_of m)) (turn : Turn m n ls es taken v table start marks) where
  pub raise_none : (bound : m.Value) (first : Found) → Raising m n ls es taken v bound first start first 0
  raise_none bound first = record {
    waits = waits_same turn.waits (λ x. refl) (λ x _. sym (mixed_old (kind_of m) n ls es v taken 0 x (omega arith)));
    notes = λ before h. rw (append-nil before) h;
  }

  module _ {bound : m.Value} {first f : Found} {keys : ℕ → Option W} {w : ℕ} (below : w < n) (raising : Raising m n ls es taken v bound first keys f w) where
    -- w stays as it is, and no pair is found with it
    still : (rest n es (v ∷ taken) w ≡ true → key (kind_of m) n ls es (v ∷ taken) w ≡ key (kind_of m) n ls es taken w) → raised (kind_of m) n ls es bound v taken w ≡ false → Raising m n ls es taken v bound first keys f (w + 1)
    still same none = record {
      waits = waits_same raising.waits (λ x. refl) (mixed_same (kind_of m) n ls es v taken w same);
      notes = λ before h. subst (λ (r : List (ℕ × ℕ)). Notes n r f) (finds_not (kind_of m) n ls es v taken before bound w none) (raising.notes before h);
    }

    -- w does not wait
    pub raise_gone : get_or marks w false ≡ false → Raising m n ls es taken v bound first keys f (w + 1)
    raise_gone unmarked =
        let gone = sym (turn.marked.each w) ∙ unmarked in
        still (λ o. absurd (both_ways _ gone o)) (gone_not (kind_of m) n ls es v taken bound w gone)

    module _ (marked : get_or marks w false ≡ true) where
      here : rest n es (v ∷ taken) w ≡ true
      here = sym (turn.marked.each w) ∙ marked

      left : has (v ∷ taken) w ≡ false
      left = (rest_stands n es (v ∷ taken) w here).1

      -- the table's entry is the joint weight
      is_joint : at m table n v w ≡ joint (kind_of m) ls es v w
      is_joint = turn.holds.joints v w turn.order.0 (rest_stands n es (v ∷ taken) w here).0 (rest_apart n es v taken w here)

      -- which is nothing
      pub raise_light : m.le (at m table n v w) m.zero ≡ true → Raising m n ls es taken v bound first keys f (w + 1)
      raise_light light =
          let none = subst (λ x. m.le x m.zero ≡ true) is_joint light in
          still (λ _. unraised (kind_of m) n ls es v taken laws turn.sound w turn.order.1 left none) (light_not (kind_of m) n ls es v taken bound w none)

      is_old : (k : W) → keys w ≡ Some k → m.value k ≡ key (kind_of m) n ls es taken w
      is_old k e = (waits_some raising.waits w k e).1 ∙ mixed_old (kind_of m) n ls es v taken w w (omega arith)

      module _ (by : W) (above : Above m (at m table n v w) (Some by)) where
        -- w waits, and the sum is not refused
        pub raise_can : (k : W) × (keys w ≡ Some k) × (m.size (m.value k) + m.size (m.value by) ≤ limit)
        raise_can =
            let (k, e, is) = waits_here raising.waits w here in
            (k, e, rw (is_old k e, above.0, is_joint) (raise_fits (kind_of m) n ls es v taken laws turn.sound w))

        module _ {after : ℕ → Option W} (r : W) (answer : Raised m.value m.plus m.size keys after w by (Ok r)) where
          is_key : m.value r ≡ key (kind_of m) n ls es (v ∷ taken) w
          is_key = answer.0.3 ∙ ap₂ m.plus (is_old answer.0.0 answer.0.1) (above.0 ∙ is_joint) ∙ sym (key_more (kind_of m) laws n ls turn.sound es v taken w turn.order.1 left)

          grown : Waits m.value after (rest n es (v ∷ taken)) (mixed (kind_of m) n ls es v taken (w + 1))
          grown = waits_change raising.waits w (Some r) answer.1
              (ap Some (is_key ∙ sym (mixed_new (kind_of m) n ls es v taken (w + 1) w (omega arith))) ∙ sym (cond-true (rest n es (v ∷ taken) w) _ None here)) (λ x _. refl) (mixed_apart (kind_of m) n ls es v taken w)

        module _ {after : ℕ → Option W} where
          refused : (refusal : Refusal) → Raised m.value m.plus m.size keys after w by (Err refusal) → ⊥
          refused refusal rise =
              let (old, here, fits) = raise_can in
              ⊎_elim
              (λ absent. let none = absent.0 in let z : ◌≡◌ {A = ℕ} 0 1 = cc in omega arith)
              (λ over. let (was, is, much, _) = over in let same : m.size (m.value was) ≡ m.size (m.value old) = cc in omega arith)
              rise.0

          -- the new key does not come to the bound
          pub raise_short : (answer : Result W Refusal) → Raised m.value m.plus m.size keys after w by answer → comes_to m bound answer ≡ false → (f' : Found) → f' ≡ f → Raising m n ls es taken v bound first after f' (w + 1)
          raise_short (Err refusal) rise short f' is = absurd (refused refusal rise)
          raise_short (Ok r) rise short f' is = record {
            waits = grown r rise;
            notes = λ before h. subst₂ (Notes n) (finds_not (kind_of m) n ls es v taken before bound w (short_not (kind_of m) n ls es v taken bound w (subst (λ x. m.le bound x ≡ false) (is_key r rise) short))) (sym is) (raising.notes before h);
          }

          -- it does, and the pair is noted
          pub raise_found : (answer : Result W Refusal) → Raised m.value m.plus m.size keys after w by answer → comes_to m bound answer ≡ true → {noted : Found} → ((k : ℕ) (before : List (ℕ × ℕ)) → Notes k before f → Notes k (before ++ ((v, w) ∷ [])) noted) → (f' : Found) → f' ≡ noted → Raising m n ls es taken v bound first after f' (w + 1)
          raise_found (Err refusal) rise reached note f' is = absurd (refused refusal rise)
          raise_found (Ok r) rise reached note f' is = record {
            waits = grown r rise;
            notes = λ before h. subst₂ (Notes n) (finds_one (kind_of m) n ls es v taken before bound w found) (sym is) (note n _ (raising.notes before h));
          }
            where
              found : raised (kind_of m) n ls es bound v taken w ≡ true
              found = reached_is (kind_of m) n ls es v taken bound w here (subst (λ x. m.le x m.zero ≡ false) is_joint above.1) (subst (λ x. m.le bound x ≡ true) (is_key r rise) reached)

  -- every group is raised
  module _ {bound : m.Value} {first f : Found} {keys : ℕ → Option W} {w : ℕ} (end : w ≡ n) (raising : Raising m n ls es taken v bound first keys f w) where
    pub keyed_every : Keyed m n ls es (v ∷ taken) keys
    keyed_every = waits_same raising.waits (λ x. refl) (λ x o. let l = stands_less n es x (rest_stands n es (v ∷ taken) x o).0 in mixed_new (kind_of m) n ls es v taken w x (omega arith))

    pub notes_every : (before : List (ℕ × ℕ)) → Notes n before first → Notes n (before ++ finds (kind_of m) n ls es bound v taken n) f
    notes_every before h = subst (λ k. Notes n (before ++ finds (kind_of m) n ls es bound v taken k) f) end (raising.notes before h)
