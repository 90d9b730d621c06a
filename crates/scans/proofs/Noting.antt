-- A pair is noted: the classes before and after.
use Rattle.std.proofs.Common.{◌≡◌, ℕ, ◌+◌, ◌<◌, ◌≤◌, min, max, Bool, true, cond, eqb, List, [], ◌∷◌, ◌++◌, get_or, take, set, sym, ap, ◌∙◌, ap₂, ⊎_elim, append-nil, arith}
use Rattle.std.proofs.lemmas.Bool.Decides.{nat_tests}
use Rattle.std.proofs.lemmas.List.{take_more_set}
use Rattle.std.proofs.lemmas.Bool.{cases_lt, cond-true, cond-false, eq-eqb, ne_eqb}
use Rattle.cuts.specs.declared.entry.Entry.{Entry}
use Rattle.cuts.specs.declared.ground.Ground.TheVariants.{Scan}
use Rattle.cuts.specs.Groups.{after, stands, Joins}
use Rattle.cuts.specs.Noted.{brought, classes, noted}
use Rattle.cuts.specs.Records.{merger}
use Rattle.cuts.proofs.Counts.{but, count_but}
use Rattle.cuts.proofs.Names.{Named, named, joins_more, lands, stands_less, after_more}
use Rattle.cuts.proofs.Noted.{noted_more, classes_more}
use Rattle.tables.specs.declared.groups.Groups.{Groups}
use Rattle.tables.specs.Meaning.{Tracks}
use Rattle.scans.specs.declared.found.Found.{Found}
use Rattle.scans.specs.Scanned.{Notes}

-- two that are one stay so
one : (p q z : ℕ) → p ≡ q → cond (eqb z (max p q)) (min p q) z ≡ z
one p q z h = let lo : min p q ≡ q = omega arith in let hi : max p q ≡ q = omega arith in rw (lo, hi) (grind (arith, nat_tests))

low_high : (P : ℕ → Type 0) (x y : ℕ) → P x → P y → P (min x y) × P (max x y)
low_high P x y px py =
    ⊎_elim
    (λ (l : x < y). let lo : min x y ≡ x = omega arith in let hi : max x y ≡ y = omega arith in (rw lo px, rw hi py))
    (λ (g : y ≤ x). let lo : min x y ≡ y = omega arith in let hi : max x y ≡ x = omega arith in (rw lo py, rw hi px))
    (cases_lt x y)

-- the pair is a and b, and their classes are x and y
module _ {n : ℕ} {pairs : List (ℕ × ℕ)} {f : Found} (notes : Notes n pairs f) {a b : ℕ} (in-a : a < f.classes.units) (in_b : b < f.classes.units) {x y : ℕ} (of-a : x ≡ get_or f.classes.names a 0) (of-b : y ≡ get_or f.classes.names b 0) where
  below : (u : ℕ) → u < f.classes.units → u < n
  below u l = let units = notes.tracks.units in omega arith

  is_a : x ≡ classes (λ z. z) pairs a
  is_a = of-a ∙ notes.tracks.names a (below a in-a) ∙ notes.classes_are a (below a in-a)

  is_b : y ≡ classes (λ z. z) pairs b
  is_b = of-b ∙ notes.tracks.names b (below b in_b) ∙ notes.classes_are b (below b in_b)

  -- of one class already: nothing changes
  pub noted_not : x ≡ y → Notes n (pairs ++ ((a, b) ∷ [])) f
  noted_not e = record {
    mergers = notes.mergers;
    joins = notes.joins;
    tracks = notes.tracks;
    classes_are = λ u l. notes.classes_are u l ∙ sym (one _ _ _ together) ∙ ap (λ (c : ℕ → ℕ). c u) (sym (classes_more (λ z. z) pairs (a, b)));
    pairs_are = notes.pairs_are ∙ sym (noted_more (λ z. z) pairs (a, b) ∙ ap (λ r. noted (λ z. z) pairs ++ r) (cond-true _ [] ((a, b) ∷ []) (eq-eqb _ _ together)) ∙ append-nil _);
  }
    where
      together : classes (λ z. z) pairs a ≡ classes (λ z. z) pairs b
      together = sym is_a ∙ e ∙ is_b

  module _ (apart : x ≡ y → ⊥) where
    named_so : Named n notes.mergers
    named_so = named n notes.mergers notes.joins

    stands_a : stands n notes.mergers x ≡ true
    stands_a = rw (of-a, notes.tracks.names a (below a in-a)) (lands n notes.mergers named_so a (below a in-a))

    stands_b : stands n notes.mergers y ≡ true
    stands_b = rw (of-b, notes.tracks.names b (below b in_b)) (lands n notes.mergers named_so b (below b in_b))

    -- two classes at least are left
    pub two_classes : 2 ≤ f.classes.left
    two_classes =
        let es = notes.mergers in
        let c = count_but n (stands n es) x (stands_less n es x stands_a) stands_a in
        let d = count_but n (but (stands n es) x) y (stands_less n es y stands_b) (other (stands n es) y x stands_b (λ h. apart (sym h))) in
        let k = named_so.fewer in
        let t = notes.tracks.left in
        omega arith
      where
        other : (P : ℕ → Bool) (u v : ℕ) → P u ≡ true → (u ≡ v → ⊥) → but P v u ≡ true
        other P u v h ne = grind (arith, nat_tests)

    stand : (stands n notes.mergers (min x y) ≡ true) × (stands n notes.mergers (max x y) ≡ true)
    stand = low_high (λ u. stands n notes.mergers u ≡ true) x y stands_a stands_b

    -- the merger that brings the two classes together
    abbrev joining : Entry
    joining = merger x y Scan 0

    -- of two classes: they become one, and the pair is noted
    pub noted_new : {low high : ℕ} {joined : Groups} (f' : Found) → low ≡ min x y → high ≡ max x y
        → ((k : ℕ) (es : List Entry) (e : Entry) → Joins k [] es → stands k es low ≡ true → stands k es high ≡ true → low < high → e.low ≡ low → e.high ≡ high → Tracks k es f.classes → Tracks k (es ++ (e ∷ [])) joined)
        → f'.classes ≡ joined → f'.count ≡ f.count + 1 → f'.pairs ≡ set f.pairs f.count (a, b) → Notes n (pairs ++ ((a, b) ∷ [])) f'
    noted_new f' is-low is-high join is count new = record {
      mergers = notes.mergers ++ (joining ∷ []);
      joins = joins_more n [] notes.mergers joining notes.joins stand.0 stand.1 (omega (arith, apart));
      tracks = rw is (join n notes.mergers joining notes.joins (rw is-low stand.0) (rw is-high stand.1) (omega (arith, apart)) (sym is-low) (sym is-high) notes.tracks);
      classes_are = λ u l. after_more notes.mergers joining u ∙ bring u l ∙ ap (λ (c : ℕ → ℕ). c u) (sym (classes_more (λ z. z) pairs (a, b)));
      pairs_are = ap₂ take count new ∙ pushed ∙ ap (λ r. r ++ ((a, b) ∷ [])) notes.pairs_are ∙ sym (noted_more (λ z. z) pairs (a, b) ∙ ap (λ r. noted (λ z. z) pairs ++ r) (cond-false _ [] ((a, b) ∷ []) (ne_eqb _ _ differ)));
    }
      where
        bring : (u : ℕ) → u < n → cond (eqb (after notes.mergers u) (max x y)) (min x y) (after notes.mergers u) ≡ brought (classes (λ z. z) pairs) (a, b) u
        bring u l = let e = notes.classes_are u l in let ea = is_a in let eb = is_b in cc

        differ : classes (λ z. z) pairs a ≡ classes (λ z. z) pairs b → ⊥
        differ e = apart (is_a ∙ e ∙ sym is_b)

        pushed : take (f.count + 1) (set f.pairs f.count (a, b)) ≡ take f.count f.pairs ++ ((a, b) ∷ [])
        pushed = let least = two_classes in take_more_set f.pairs f.count (a, b) (omega arith)
