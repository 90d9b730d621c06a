-- Marks of a weakest division stay such marks by the edits of the table.
use Rattle.std.proofs.Common.{◌≡◌, ℕ, zero, suc, ◌+◌, ◌<◌, ◌≤◌, Bool, true, false, cond, not, ◌||◌, eqb, ◌⊎◌, List, [], ◌∷◌, ◌++◌, map, length, get_or, sym, refl, ap, ◌∙◌, subst, inl, inr, ⊎_elim, arith, length-set}
use Rattle.std.specs.List.{AllByRecursion}
use Rattle.std.proofs.ByRecursion.{all_from_every}
use Rattle.std.proofs.lemmas.List.{get_or-take, map-append}
use Rattle.std.proofs.lemmas.Bool.{both_ways, eqb-true, false≢true}
use Rattle.std.proofs.lemmas.Bool.Decides.{nat_tests}
use Rattle.weights.specs.declared.weight.Weight.{Ghosts}
use Rattle.weights.specs.Laws.{Laws, limit}
use Rattle.cuts.specs.Kinds.{kind_of}
use Rattle.cuts.specs.Links.{Link as Joint, Ends, total, Sound as Fair}
use Rattle.cuts.specs.Divisions.{Weakest}
use Rattle.cuts.specs.Edits.{Stays, OneSide, DifferentSides}
use Rattle.cuts.proofs.Facts.{sound_within}
use Rattle.cuts.proofs.Kept.{edits_keep_lem}
use Rattle.plans.specs.declared.plan.Link.{Link}
use Rattle.plans.specs.declared.plan.Plan.{Plan}
use Rattle.plans.specs.Calls.{most_total}
use Rattle.plans.specs.Model.{Model, model_of, total_of, changed, linked, struck, reweighed, marked, recoded}
use Rattle.plans.specs.Divided.{valued, links_of, side_of}
use Rattle.plans.specs.Sound.{Joins}
use Rattle.plans.proofs.Linking.{unit_size, link_size_lem}
use Rattle.filings.specs.declared.kept.Change.TheVariants.{Equal, Heavier, Lighter}
use Rattle.filings.specs.Edits.{is_one_side, suits, outlives, strike_of, reweigh_of, mark_of, stays, striking, reweighing, marking}
use Rattle.filings.specs.Filed.{Marks}
use Rattle.filings.proofs.Parting.{Parted, parted}

-- one side or different sides, by the bytes and by the marks
same_side : (x y : ℕ) → eqb x y ≡ true → eqb x 1 ≡ eqb y 1
same_side x y e = ap (λ n. eqb n 1) (eqb-true x y e)

other_side : (x y : ℕ) → x < 2 → y < 2 → eqb x y ≡ false → eqb x 1 ≡ eqb y 1 → ⊥
other_side x y hx hy e s = grind (arith, nat_tests)

-- what the table says of a link, case by case
out_why : (s one : Bool) → (not s || not one) ≡ true → (s ≡ false) ⊎ (one ≡ false)
out_why false one h = inl refl
out_why true false h = inr refl
out_why true true h = absurd (false≢true h)

in_why : (s one : Bool) → (s || one) ≡ true → (s ≡ true) ⊎ (one ≡ true)
in_why true one h = inl refl
in_why false one h = inr h

suits_why : (one a b : Bool) → (a ≡ false → b ≡ true) → suits one (cond a (cond b Equal Heavier) Lighter) ≡ true → ((one ≡ true) × (a ≡ true)) ⊎ ((one ≡ false) × (b ≡ true))
suits_why true true b either h = inl (refl, refl)
suits_why true false b either h = absurd (false≢true h)
suits_why false true true either h = inr (refl, refl)
suits_why false true false either h = absurd (false≢true h)
suits_why false false b either h = inr (refl, either refl)

reweigh_why : (s one a b : Bool) → (a ≡ false → b ≡ true) → (not s || suits one (cond a (cond b Equal Heavier) Lighter)) ≡ true → (s ≡ false) ⊎ (((one ≡ true) × (a ≡ true)) ⊎ ((one ≡ false) × (b ≡ true)))
reweigh_why false one a b either h = inl refl
reweigh_why true one a b either h = inr (suits_why one a b either h)

ends_here : {V : Type 0} (n : ℕ) (ps qs : List (Joint V)) (l : Joint V) → Ends n (ps ++ (l ∷ qs)) → (l.first < n) × (l.second < n)
unfolding Ends
ends_here n [] qs l e = (e.0, e.1)
ends_here n (p ∷ ps) qs l e = ends_here n ps qs l e.2

module _ {W : Type 0} (g : Ghosts W) where
  -- no sum over the links of the model is refused
  abbrev pub Fairly : Model W → Type 0
  Fairly m = Fair (kind_of g) (length m.codes) (links_of g m)

  total_values : (ls : List (Link W)) → total (kind_of g) (map (valued g) ls) ≡ total_of g ls
  unfolding total
  total_values [] = refl
  total_values (l ∷ ls) = ap (λ n. g.size (g.value l.weight) + n) (total_values ls)

  ends_values : (n : ℕ) (ls : List (Link W)) → AllByRecursion (Joins g n) ls → Ends n (map (valued g) ls)
  unfolding Ends
  ends_values n [] a = tt
  ends_values n (l ∷ ls) a = (a.0.first, a.0.second, ends_values n ls a.1)

  -- links that join units of the plan, with amounts that keep the limit
  pub fair_links : (m : Model W) → AllByRecursion (Joins g (length m.codes)) m.links → total_of g m.links ≤ most_total → Fairly m
  fair_links m joins limited =
      let t = total_values m.links in
      sound_within (kind_of g) (length m.codes) (links_of g m) (ends_values (length m.codes) m.links joins) (omega arith)

-- nor over those of a plan
pub fair_plan : {W : Type 0} {g : Ghosts W} (p : Plan W g) → Fairly g (model_of p)
fair_plan {g = g} p =
    let ls = (model_of p).links in
    let size = link_size_lem p in
    let joins : AllByRecursion (Joins g p.unit_count) ls = all_from_every (Joins g p.unit_count) ls (λ k d low high.
    let h : k < p.link_count = omega arith in
    subst (Joins g p.unit_count) (sym (get_or-take p.link_count p.links.now k d h)) (p.sound.joins k d low h)) in
    let c = p.sound.counted in
    let m = p.sound.limited in
    fair_links g (model_of p) (subst (λ n. AllByRecursion (Joins g n) ls) (sym (unit_size p)) joins) (omega arith)

module _ {W : Type 0} (g : Ghosts W) where
  module _ (laws : Laws g.zero g.plus g.le g.size) (bounded : (x : W) → g.size (g.value x) ≤ limit) (m : Model W) (sides : List ℕ) (fair : Fairly g m) (marks : Marks g m sides) where
    abbrev units : ℕ
    units = length m.codes

    one_side : (a b : ℕ) → is_one_side sides a b ≡ true → side_of sides a ≡ side_of sides b
    one_side a b e = same_side (get_or sides a 0) (get_or sides b 0) e

    different : (a b : ℕ) → a < units → b < units → is_one_side sides a b ≡ false → side_of sides a ≡ side_of sides b → ⊥
    different a b ha hb e = other_side (get_or sides a 0) (get_or sides b 0) (marks.bytes a ha) (marks.bytes b hb) e

    -- the same marks, over other links
    remains : (ls : List (Link W)) → Weakest (kind_of g) units (map (valued g) ls) (side_of sides) → Marks g (record { codes = m.codes; links = ls }) sides
    remains ls w = record { units = marks.units; bytes = marks.bytes; first = marks.first; weakest = w }

    pub recoded_stays : (k : ℕ) (text : List ℕ) → Marks g (recoded k text m) sides
    recoded_stays k text =
        let e = length-set m.codes k text in
        record { units = rw e marks.units; bytes = rw e marks.bytes; first = marks.first; weakest = rw e marks.weakest }

    pub linked_stays : (l : Link W) → Fairly g (linked l m) → is_one_side sides l.first l.second ≡ true → Marks g (linked l m) sides
    linked_stays l new one =
        let e = map-append (valued g) m.links (l ∷ []) in
        remains (m.links ++ (l ∷ [])) (rw e ((edits_keep_lem (kind_of g) laws).link units (side_of sides) (links_of g m) (valued g l) (one_side l.first l.second one) fair (rw e at new) marks.weakest))

    module _ (k : ℕ) (there : k < length m.links) where
      at : Parted m.links k
      at = parted m.links k there

      abbrev ps : List (Joint g.Value)
      ps = map (valued g) at.front

      abbrev qs : List (Joint g.Value)
      qs = map (valued g) at.back

      whole : links_of g m ≡ ps ++ (valued g at.here ∷ qs)
      whole = ap (map (valued g)) at.all ∙ map-append (valued g) at.front (at.here ∷ at.back)

      ends : (at.here.first < units) × (at.here.second < units)
      ends = ends_here units ps qs (valued g at.here) (subst (λ ls. Fair (kind_of g) units ls) whole fair).ends

      apart : is_one_side sides at.here.first at.here.second ≡ false → DifferentSides (side_of sides) (valued g at.here)
      apart e = different at.here.first at.here.second ends.0 ends.1 e

      level : is_one_side sides at.here.first at.here.second ≡ true → OneSide (side_of sides) (valued g at.here)
      level e = one_side at.here.first at.here.second e

      -- what holds of the parted links holds of the links
      moves : (ls : List (Link W)) (after : List (Joint g.Value)) → map (valued g) ls ≡ after → Fair (kind_of g) units (map (valued g) ls) → Stays (kind_of g) units (side_of sides) (ps ++ (valued g at.here ∷ qs)) after → Marks g (record { codes = m.codes; links = ls }) sides
      moves ls after e new keeps = remains ls (subst (λ xs. Weakest (kind_of g) units xs (side_of sides)) (sym e) (keeps (subst (λ xs. Fair (kind_of g) units xs) whole fair) (subst (λ xs. Fair (kind_of g) units xs) e new) (subst (λ xs. Weakest (kind_of g) units xs (side_of sides)) whole marks.weakest)))

      changes : (f : Link W → Link W) → map (valued g) (changed k f m.links) ≡ ps ++ (valued g (f at.here) ∷ qs)
      changes f = ap (map (valued g)) (at.new f) ∙ map-append (valued g) at.front (f at.here ∷ at.back)

      out_told : outlives sides (strike_of at.here) ≡ true → (at.here.in_service ≡ false) ⊎ DifferentSides (side_of sides) (valued g at.here)
      out_told h = ⊎_elim inl (λ e. inr (apart e)) (out_why at.here.in_service (is_one_side sides at.here.first at.here.second) h)

      pub struck_stays : Fairly g (struck k m) → stays g m sides (striking k) ≡ true → Marks g (struck k m) sides
      struck_stays new stay = moves (struck k m).links (ps ++ qs) (ap (map (valued g)) at.less ∙ map-append (valued g) at.front at.back) new ((edits_keep_lem (kind_of g) laws).strike units (side_of sides) ps qs (valued g at.here) (out_told (sym (at.stay sides strike_of) ∙ stay)))

      pub marked_stays : (b : ℕ) → b < 2 → Fairly g (marked k (eqb b 1) m) → stays g m sides (marking k b) ≡ true → Marks g (marked k (eqb b 1) m) sides
      marked_stays zero low new stay = moves (marked k false m).links _ (changes _) new ((edits_keep_lem (kind_of g) laws).mark_out units (side_of sides) ps qs (valued g at.here) (out_told (sym (at.stay sides (mark_of 0)) ∙ stay)))
      marked_stays (suc zero) low new stay = moves (marked k true m).links _ (changes _) new ((edits_keep_lem (kind_of g) laws).mark_in units (side_of sides) ps qs (valued g at.here) (⊎_elim inl (λ e. inr (level e)) (in_why at.here.in_service (is_one_side sides at.here.first at.here.second) (sym (at.stay sides (mark_of 1)) ∙ stay))))
      marked_stays (suc (suc b)) low new stay = absurd (omega arith)

      pub reweighed_stays : (w : W) → Fairly g (reweighed k w m) → stays g m sides (reweighing k w) ≡ true → Marks g (reweighed k w m) sides
      reweighed_stays w new stay =
          let old = at.here.weight in
          let either : g.le (g.value old) (g.value w) ≡ false → g.le (g.value w) (g.value old) ≡ true = λ e. ⊎_elim (λ (h : g.le (g.value old) (g.value w) ≡ true). absurd (both_ways _ e h)) (λ h. h) (laws.total (g.value old) (g.value w) (bounded old) (bounded w)) in
          let why = reweigh_why at.here.in_service (is_one_side sides at.here.first at.here.second) (g.le (g.value old) (g.value w)) (g.le (g.value w) (g.value old)) either (sym (at.stay sides (reweigh_of g w)) ∙ stay) in
          moves (reweighed k w m).links _ (changes _) new ((edits_keep_lem (kind_of g) laws).reweigh units (side_of sides) ps qs (valued g at.here) (g.value w) (⊎_elim inl (λ r. inr (inr (⊎_elim (λ p. inl (level p.0, p.1)) (λ p. inr (apart p.0, p.1)) r))) why))
