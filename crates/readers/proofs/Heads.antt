-- The fields of the head.
use Rattle.std.proofs.Common.{◌≡◌, ℕ, ◌+◌, ◌≤◌, true, false, eqb, leb, List, [], ◌∷◌, ◌++◌, length, IfOk, Some, None, Result, sym, ap, ◌∙◌, ⊎_elim, arith, MatchResult}
use Rattle.refusals.specs.declared.Refusal.TheVariants.{OtherKind, Full}
use Rattle.weights.specs.declared.weight.Weight.{Ghosts}
use Rattle.plans.specs.Calls.{accepted, check, most_units, most_links}
use Rattle.sheets.specs.declared.fault.Fault.{Fault}
use Rattle.sheets.specs.declared.fault.Part.TheVariants.{Head}
use Rattle.sheets.specs.declared.issue.Issue.{Issue}
use Rattle.sheets.specs.Fields.{Field, magic, issue, kind, units, links, byte_at, bytes_at, two_at, issue_from, issue_in, units_in, links_in, place_of, size_of, part_of}
use Rattle.sheets.specs.Faults.{fault_of, fault_with, magic_verdict, issue_verdict}
use Rattle.sheets.proofs.Firsts.{none_some}
use Rattle.std.proofs.lemmas.Bool.{leb-true, cond-false, cases_Bool}
use Rattle.sheets.specs.Format as format
use Rattle.sheets.specs.Format.{bytes_of_head, issue_number, two}
use Rattle.readers.specs.declared.cursor.Cursor.{Cursor}
use Rattle.readers.specs.Steps.{Stands, Took}
use Rattle.readers.proofs.Pieces.{at_place, bytes_join, byte_alone}

module _ {W : Type 0} (g : Ghosts W) (bs : List ℕ) where
  -- one field was read
  abbrev pub One : {X : Type 0} → Field → ℕ → Result X Fault → Cursor → (X → Type 0) → Type 0
  One f next r a P = MatchResult r (λ x. (fault_of g bs f ≡ None) × P x) (λ e. fault_of g bs f ≡ Some e) × IfOk r (λ _. Stands bs next a) × (a.part ≡ part_of f)

  module _ {b a : Cursor} where
    pub magic_read : {r : Result (Unit {0}) Fault} → Stands bs 0 b → b.part ≡ Head
        → Took b b.part 3 (magic_verdict (bytes_at b.bytes.now b.at 3)) r a (λ _. bytes_at b.bytes.now b.at 3 ≡ format.magic)
        → One magic 3 r a (λ _. bytes_at bs 0 3 ≡ format.magic)
    unfolding fault_of
    magic_read {r} s e t = at_place (λ x q. magic_verdict (bytes_at x q 3)) (λ x q _. bytes_at x q 3 ≡ format.magic) Head 3 r b a bs 0 b.part s e t

    pub issue_read : {r : Result Issue Fault} → Stands bs 3 b → b.part ≡ Head
        → Took b b.part 2 (issue_verdict (two_at b.bytes.now b.at)) r a (λ i. (i ≡ issue_from (two_at b.bytes.now b.at)) × (bytes_at b.bytes.now b.at 2 ≡ two (issue_number i)))
        → One issue 5 r a (λ i. (i ≡ issue_in bs) × (bytes_at bs 3 2 ≡ two (issue_number i)))
    unfolding fault_of
    issue_read {r} s e t = at_place (λ x q. issue_verdict (two_at x q)) (λ x q i. (i ≡ issue_from (two_at x q)) × (bytes_at x q 2 ≡ two (issue_number i))) Head 2 r b a bs 3 b.part s e t

    pub kind_read : {r : Result (Unit {0}) Fault} → Stands bs 5 b → b.part ≡ Head
        → Took b b.part 1 (check (eqb (byte_at b.bytes.now b.at) g.KIND) OtherKind accepted) r a (λ _. byte_at b.bytes.now b.at ≡ g.KIND)
        → One kind 6 r a (λ _. byte_at bs 5 ≡ g.KIND)
    unfolding fault_of
    kind_read {r} s e t = at_place (λ x q. check (eqb (byte_at x q) g.KIND) OtherKind accepted) (λ x q _. byte_at x q ≡ g.KIND) Head 1 r b a bs 5 b.part s e t

    pub units_read : {r : Result ℕ Fault} → Stands bs 6 b → b.part ≡ Head
        → Took b b.part 1 (check (leb (byte_at b.bytes.now b.at) most_units) Full accepted) r a (λ n. (n ≡ byte_at b.bytes.now b.at) × (n ≤ most_units))
        → One units 7 r a (λ n. (n ≡ units_in bs) × (n ≤ most_units))
    unfolding fault_of
    units_read {r} s e t = at_place (λ x q. check (leb (byte_at x q) most_units) Full accepted) (λ x q n. (n ≡ byte_at x q) × (n ≤ most_units)) Head 1 r b a bs 6 b.part s e t

    pub links_read : {r : Result ℕ Fault} → Stands bs 7 b → b.part ≡ Head
        → Took b b.part 2 (check (leb (two_at b.bytes.now b.at) most_links) Full accepted) r a (λ n. (n ≡ two_at b.bytes.now b.at) × (bytes_at b.bytes.now b.at 2 ≡ two n) × (n ≤ most_links))
        → One links 9 r a (λ n. (n ≡ links_in bs) × (bytes_at bs 7 2 ≡ two n) × (n ≤ most_links))
    unfolding fault_of
    links_read {r} s e t = at_place (λ x q. check (leb (two_at x q) most_links) Full accepted) (λ x q n. (n ≡ two_at x q) × (bytes_at x q 2 ≡ two n) × (n ≤ most_links)) Head 2 r b a bs 7 b.part s e t

  -- a field with no fault is whole
  pub whole : (f : Field) → fault_of g bs f ≡ None → place_of g bs f + size_of g bs f ≤ length bs
  unfolding fault_of
  whole f h = ⊎_elim (λ (t : leb (place_of g bs f + size_of g bs f) (length bs) ≡ true). leb-true _ _ t)
      (λ (t : leb (place_of g bs f + size_of g bs f) (length bs) ≡ false). absurd (none_some h (ap (fault_with (place_of g bs f) (part_of f)) (cond-false _ _ _ t))))
      (cases_Bool (leb (place_of g bs f + size_of g bs f) (length bs)))

  -- the nine bytes of the head
  pub head_bytes : (i : Issue) (u l : ℕ) → 9 ≤ length bs → bytes_at bs 0 3 ≡ format.magic → bytes_at bs 3 2 ≡ two (issue_number i) → byte_at bs 5 ≡ g.KIND → u ≡ byte_at bs 6 → bytes_at bs 7 2 ≡ two l → bytes_at bs 0 9 ≡ bytes_of_head g i u l
  head_bytes i u l len m is k us ls =
      let one = bytes_join bs 0 3 6 in
      let next = bytes_join bs 3 2 4 in
      let third = bytes_join bs 5 1 3 in
      let fourth = bytes_join bs 6 1 2 in
      let a = byte_alone bs 5 (omega arith) in
      let b = byte_alone bs 6 (omega arith) in
      let last : bytes_at bs 6 3 ≡ u ∷ two l = fourth ∙ (ap (λ x. x ++ bytes_at bs 7 2) (b ∙ ap (λ x. x ∷ []) (sym us)) ∙ ap (λ x. u ∷ x) ls) in
      let more : bytes_at bs 5 4 ≡ g.KIND ∷ u ∷ two l = third ∙ (ap (λ x. x ++ bytes_at bs 6 3) (a ∙ ap (λ x. x ∷ []) k) ∙ ap (λ x. g.KIND ∷ x) last) in
      one ∙ (ap (λ x. x ++ bytes_at bs 3 6) m ∙ ap (λ x. format.magic ++ x) (next ∙ (ap (λ x. x ++ bytes_at bs 5 4) is ∙ ap (λ x. two (issue_number i) ++ x) more)))
