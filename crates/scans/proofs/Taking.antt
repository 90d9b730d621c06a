-- What holds between two turns of a scan.
use Rattle.std.proofs.Common.{◌≡◌, ℕ, ◌<◌, ◌≤◌, Bool, true, false, ◌&&◌, ltb, List, [], ◌∷◌, length, get_or, set, None, Option, sym, refl, ◌∙◌, ⊎_elim, arith}
use Rattle.std.proofs.lemmas.Bool.Decides.{nat_tests}
use Rattle.std.proofs.lemmas.Bool.{cases_lt, cond-false, and_from, not_from_false}
use Rattle.weights.specs.declared.weight.Weight.{Ghosts}
use Rattle.cuts.specs.declared.entry.Entry.{Entry}
use Rattle.cuts.specs.Kinds.{kind_of, Lawful, AtMost}
use Rattle.cuts.specs.Links.{Link}
use Rattle.cuts.specs.Groups.{stands}
use Rattle.cuts.specs.Scans.{has, key, Order, Complete, found}
use Rattle.cuts.proofs.Facts.{key_none}
use Rattle.cuts.proofs.Names.{stands_less}
use Rattle.queues.specs.Keys.{Becomes, Empty, Heaviest}
use Rattle.tables.specs.declared.groups.Groups.{Groups}
use Rattle.tables.specs.Meaning.{Explains, Tracks}
use Rattle.scans.specs.declared.found.Found.{Found}
use Rattle.scans.specs.Scanned.{Notes, Scanned, pairs_of}
use Rattle.scans.specs.Waits.{Waits, Marks, present}
use Rattle.scans.proofs.Waiting.{waits_here, waits_some, waits_empty, waits_change, waits_same, mark, mark_same}
use Rattle.scans.proofs.Turns.{Keyed, rest, Turn, rest_stands}

-- some groups were taken, each a heaviest; the others wait with their keys, and the pairs found are noted
pub record Taking {W : Type 0} (m : Ghosts W) (n : ℕ) (ls : List (Link m.Value)) (es : List Entry) (bound : m.Value) (keys : ℕ → Option W) (marks : List Bool) (f : Found) : Type 0 where
  pub taken : List ℕ
  pub order : Order (kind_of m) n ls es taken
  pub keyed : Keyed m n ls es taken keys
  pub marked : Marks marks (rest n es taken)
  pub notes : Notes n (found (kind_of m) n ls es bound taken) f

-- the groups that are marked as standing are those to take
present_rest : (n : ℕ) (es : List Entry) (groups : Groups) → Tracks n es groups → (x : ℕ) → present n groups x ≡ rest n es [] x
present_rest n es groups tracks x =
    ⊎_elim
    (λ (l : x < n). let e = tracks.standing x l in inside (get_or groups.standing x false) (stands n es x) e l)
    (λ (h : n ≤ x). grind (arith, nat_tests))
    (cases_lt x n)
  where
    inside : (a b : Bool) → a ≡ b → x < n → (ltb x n && a) ≡ (b && true)
    inside a b e l = grind (arith, nat_tests)

module _ {W : Type 0} {m : Ghosts W} (laws : Lawful (kind_of m)) {n : ℕ} {ls : List (Link m.Value)} {es : List Entry} {table : List W} {groups : Groups} (means : Explains m n ls es table groups) where
  pub taking_none : {keys : ℕ → Option W} {marks : List Bool} {f : Found} (bound : m.Value) → Waits m.value keys (present n groups) (λ _. m.zero) → Marks marks (present n groups) → Notes n [] f → Taking m n ls es bound keys marks f
  taking_none bound waits marked notes = record {
    taken = [];
    order = tt;
    keyed = waits_same waits (present_rest n es groups means.tracks) (λ x _. sym (key_none (kind_of m) laws n ls means.sound es x));
    marked = mark_same marked (present_rest n es groups means.tracks);
    notes = notes;
  }

  module _ {bound : m.Value} {keys : ℕ → Option W} {marks : List Bool} {f : Found} (taking : Taking m n ls es bound keys marks f) where
    module _ (v : ℕ) (k : W) (top : Heaviest (λ a b. m.le (m.value a) (m.value b)) keys v k) where
      here : (rest n es taking.taken v ≡ true) × (m.value k ≡ key (kind_of m) n ls es taking.taken v)
      here = waits_some taking.keyed v k top.here

      -- the group taken is one of those that stand, and is marked
      pub taken_below : v < n
      taken_below = stands_less n es v (rest_stands n es taking.taken v here.0).0

      pub taken_marked : get_or marks v false ≡ true
      taken_marked = taking.marked.each v ∙ here.0

      pub turn : {after : ℕ → Option W} → n ≤ length marks → Becomes keys after v None → Turn m n ls es taking.taken v table after (set marks v false)
      turn room becomes = record {
        sound = means.sound;
        holds = means.holds;
        order = (parts.0, parts.1, heaviest, taking.order);
        waits = waits_change taking.keyed v None becomes (sym (cond-false (rest n es (v ∷ taken) v) _ None gone)) less (λ x _. refl);
        marked = (let l = taken_below in mark taking.marked v false (omega arith) (sym gone) less);
      }
        where
          taken : List ℕ
          taken = taking.taken

          parts : (stands n es v ≡ true) × (has taken v ≡ false)
          parts = rest_stands n es taken v here.0

          heaviest : (w : ℕ) → stands n es w ≡ true → has taken w ≡ false → AtMost (kind_of m) (key (kind_of m) n ls es taken w) (key (kind_of m) n ls es taken v)
          heaviest w s o =
              let (j, e, is) = waits_here taking.keyed w (and_from _ _ s (not_from_false _ o)) in
              rw (sym is, sym here.1) (top.most w j e)

          gone : rest n es (v ∷ taken) v ≡ false
          gone = grind (arith, nat_tests)

          less : (x : ℕ) → (x ≡ v → ⊥) → rest n es taken x ≡ rest n es (v ∷ taken) x
          less x ne = grind (arith, nat_tests)

    -- every group is taken
    pub all_taken : Empty keys → Scanned (kind_of m) n ls es bound (pairs_of f)
    all_taken empty = record { taken = taking.taken; order = taking.order; complete = complete; pairs_are = taking.notes.pairs_are }
      where
        complete : Complete (kind_of m) n ls es taking.taken
        complete w s = let e = waits_empty taking.keyed empty w in grind (arith, nat_tests)

-- the turn of v is over
pub taking_more : {W : Type 0} {m : Ghosts W} {n : ℕ} {ls : List (Link m.Value)} {es : List Entry} {taken : List ℕ} {v : ℕ} {table : List W} {before keys : ℕ → Option W} {marks : List Bool} {f : Found} (bound : m.Value) → Turn m n ls es taken v table before marks → Keyed m n ls es (v ∷ taken) keys → Notes n (found (kind_of m) n ls es bound (v ∷ taken)) f → Taking m n ls es bound keys marks f
taking_more {taken = taken} {v = v} bound turn keyed notes = record { taken = v ∷ taken; order = turn.order; keyed = keyed; marked = turn.marked; notes = notes }
