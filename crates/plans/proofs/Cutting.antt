-- Adding up what a division cuts, link by link, and counting marks.
use Rattle.std.proofs.Common.{◌≡◌, ℕ, ◌+◌, ◌≤◌, Bool, true, false, not, ◌&&◌, List, [], ◌∷◌, map, length, drop, sym, refl, ap, ◌∙◌, arith}
use mathlib.Core.Bool.{beq}
use Rattle.std.proofs.lemmas.List.{drop_all}
use Rattle.std.proofs.lemmas.Bool.{cond-true, cond-false, cond_both}
use Rattle.weights.specs.declared.weight.Weight.{Ghosts}
use Rattle.weights.specs.Laws.{Laws, limit}
use Rattle.cuts.specs.Divisions.{differ}
use Rattle.cuts.specs.Links.{sum}
use Rattle.plans.specs.declared.plan.Link.{Link}
use Rattle.cuts.specs.Kinds.{kind_of}
use Rattle.plans.specs.Divided.{valued}
use Rattle.plans.specs.Model.{amount_of, total_of}

module _ {W : Type 0} (g : Ghosts W) (T : ℕ → ℕ → Bool) where
  -- the sum over the links in service whose ends pass the test
  abbrev pub cut_of : List (Link W) → g.Value
  cut_of ls = sum (kind_of g) T (map (valued g) ls)

  pub taken : (l : Link W) (ls : List (Link W)) → (l.in_service && T l.first l.second) ≡ true → cut_of (l ∷ ls) ≡ g.plus (g.value l.weight) (cut_of ls)
  unfolding sum
  taken l ls e = cond-true _ _ _ e

  pub passed_over : (l : Link W) (ls : List (Link W)) → (l.in_service && T l.first l.second) ≡ false → cut_of (l ∷ ls) ≡ cut_of ls
  unfolding sum
  passed_over l ls e = cond-false _ _ _ e

  pub cut_none : cut_of [] ≡ g.zero
  unfolding sum
  cut_none = refl

  module _ (laws : Laws g.zero g.plus g.le g.size) where
    pub cut_size : (ls : List (Link W)) → total_of g ls ≤ limit → g.size (cut_of ls) ≤ total_of g ls
    unfolding sum
    cut_size [] h = rw laws.none (omega arith)
    cut_size (l ∷ ls) h =
        let r = cut_size ls (omega arith) in
        let more : g.size (g.plus (g.value l.weight) (cut_of ls)) ≤ total_of g (l ∷ ls) = let e = laws.amounts (g.value l.weight) (cut_of ls) (omega arith) in omega arith in
        let same : g.size (cut_of ls) ≤ total_of g (l ∷ ls) = omega arith in
        cond_both (l.in_service && T l.first l.second) (g.plus (g.value l.weight) (cut_of ls)) (cut_of ls) (λ v. g.size v ≤ total_of g (l ∷ ls)) (λ _. more) (λ _. same)

    -- what was added so far, with what is left
    pub record Adding (all : List (Link W)) (i : ℕ) (acc : g.Value) : Type 0 where
      pub fits : g.size acc + total_of g (drop i all) ≤ 1000000
      pub whole : g.plus acc (cut_of (drop i all)) ≡ cut_of all

    pub adding_none : (all : List (Link W)) (acc : g.Value) → acc ≡ g.zero → total_of g all ≤ 1000000 → Adding all 0 acc
    adding_none all acc e h = record {
      fits = let z = ap g.size e ∙ laws.none in omega arith;
      whole = ap (λ v. g.plus v (cut_of all)) e ∙ laws.neutral (cut_of all) (let c = cut_size all (omega arith) in omega arith);
    }

    module _ (all : List (Link W)) (i : ℕ) (l : Link W) (acc : g.Value) (here : drop i all ≡ l ∷ drop (i + 1) all) (a : Adding all i acc) where
      pub adding_skip : cut_of (l ∷ drop (i + 1) all) ≡ cut_of (drop (i + 1) all) → Adding all (i + 1) acc
      adding_skip e = record {
        fits = let f = a.fits in let t = ap (total_of g) here in omega arith;
        whole = ap (g.plus acc) (sym e ∙ ap cut_of (sym here)) ∙ a.whole;
      }

      pub fits_more : g.size acc + amount_of g l.weight ≤ limit
      fits_more = let f = a.fits in let t = ap (total_of g) here in omega arith

      pub adding_more : (new : g.Value) → new ≡ g.plus acc (g.value l.weight) → cut_of (l ∷ drop (i + 1) all) ≡ g.plus (g.value l.weight) (cut_of (drop (i + 1) all)) → Adding all (i + 1) new
      adding_more new is e =
          let f = a.fits in
          let t = ap (total_of g) here in
          let s = cut_size (drop (i + 1) all) (omega arith) in
          record {
            fits = let z = ap g.size is ∙ laws.amounts acc (g.value l.weight) (omega arith) in omega arith;
            whole =
                ap (λ v. g.plus v (cut_of (drop (i + 1) all))) is
                ∙ (laws.assoc acc (g.value l.weight) (cut_of (drop (i + 1) all)) (omega arith)
                ∙ (ap (g.plus acc) (sym e ∙ ap cut_of (sym here)) ∙ a.whole));
          }

    pub adding_all : (all : List (Link W)) (i : ℕ) (acc : g.Value) → length all ≤ i → Adding all i acc → acc ≡ cut_of all
    adding_all all i acc past a =
        let f = a.fits in
        let z = laws.none in
        let small : g.size acc ≤ limit = omega arith in
        sym (laws.neutral acc small)
        ∙ (laws.comm g.zero acc (omega arith)
        ∙ (ap (g.plus acc) (sym cut_none ∙ ap cut_of (sym (drop_all i all past))) ∙ a.whole))

-- the test of two sides for a difference
pub differ_is : (a b : Bool) → not (beq a b) ≡ differ a b
differ_is true true = refl
differ_is true false = refl
differ_is false true = refl
differ_is false false = refl
