-- The pairs that a scan found, merged one after another.
use Rattle.std.proofs.Common.{◌≡◌, ℕ, ◌+◌, ◌<◌, ◌≤◌, min, max, Bool, true, false, cond, ◌||◌, eqb, List, [], ◌∷◌, ◌++◌, length, get_or, take, drop, sym, refl, ap, ◌∙◌, subst, ⊎_elim, arith}
use Rattle.std.proofs.lemmas.List.{take_more, take-append-drop}
use Rattle.std.proofs.lemmas.Bool.{cases_lt, eq-eqb, ne_eqb, or_right, or_from}
use Rattle.weights.specs.declared.weight.Weight.{Ghosts}
use Rattle.cuts.specs.declared.entry.Entry.{Entry}
use Rattle.cuts.specs.declared.ground.Ground.{Ground}
use Rattle.cuts.specs.declared.ground.Ground.TheVariants.{Scan}
use Rattle.cuts.specs.Kinds.{Kind, kind_of}
use Rattle.cuts.specs.Links.{Link}
use Rattle.cuts.specs.Groups.{after, stands}
use Rattle.cuts.specs.Records.{Point, merger, ended, merge, merge_found}
use Rattle.cuts.proofs.Names.{named, lands}
use Rattle.cuts.proofs.Noted.{stopped}
use Rattle.tables.specs.declared.groups.Groups.{Groups}
use Rattle.scans.specs.declared.found.Found.{Found}
use Rattle.scans.specs.Scanned.{pairs_of}
use Rattle.contractions.specs.declared.progress.Progress.{Progress}
use Rattle.contractions.specs.Progress.{At}

-- the entry of two groups that stand names them, the lower first
pub merger_stands : (n : ℕ) (es : List Entry) (a b : ℕ) (e : Entry) (ground : Ground) (scan : ℕ) → e ≡ merger a b ground scan → stands n es a ≡ true → stands n es b ≡ true → (a ≡ b → ⊥)
    → (e.low < e.high) × (stands n es e.low ≡ true) × (stands n es e.high ≡ true)
merger_stands n es a b e ground scan is one other apart =
    subst (λ (d : Entry). (d.low < d.high) × (stands n es d.low ≡ true) × (stands n es d.high ≡ true)) (sym is)
    (⊎_elim
    (λ (l : a < b). let lo : min a b ≡ a = omega arith in let hi : max a b ≡ b = omega arith in (rw (lo, hi) l, rw lo one, rw hi other))
    (λ (m : b ≤ a). let lo : min a b ≡ b = omega arith in let hi : max a b ≡ a = omega arith in (rw (lo, hi) (omega arith), rw lo other, rw hi one))
    (cases_lt a b))

-- the entries of equal groups and scans are equal
same_merger : (a b c d : ℕ) (ground : Ground) (s t : ℕ) → a ≡ c → b ≡ d → s ≡ t → merger a b ground s ≡ merger c d ground t
same_merger a b c d ground s t one other scan = rw (one, other, scan)

module _ {V : Type 0} (K : Kind V) (n : ℕ) (ls : List (Link V)) where
  found_append : (fs gs : List (ℕ × ℕ)) (p : Point) → merge_found K n ls (fs ++ gs) p ≡ merge_found K n ls gs (merge_found K n ls fs p)
  found_append [] gs p = refl
  found_append (f ∷ fs) gs p = go (ended K n ls p || eqb (after p.done f.0) (after p.done f.1)) (found_append fs gs)
    where
      next : Point
      next = merge K n ls p (merger (after p.done f.0) (after p.done f.1) Scan p.scans)

      go : (b : Bool) → ((q : Point) → merge_found K n ls (fs ++ gs) q ≡ merge_found K n ls gs (merge_found K n ls fs q))
          → cond b (merge_found K n ls (fs ++ gs) p) (merge_found K n ls (fs ++ gs) (merge K n ls p (merger (after p.done f.0) (after p.done f.1) Scan p.scans)))
          ≡ merge_found K n ls gs (cond b (merge_found K n ls fs p) (merge_found K n ls fs (merge K n ls p (merger (after p.done f.0) (after p.done f.1) Scan p.scans))))
      go true rest = rest p
      go false rest = rest _

  -- once work has ended, the pairs that are left change nothing
  pub found_over : (fs : List (ℕ × ℕ)) (i : ℕ) (p : Point) → ended K n ls (merge_found K n ls (take i fs) p) ≡ true → merge_found K n ls (take i fs) p ≡ merge_found K n ls fs p
  found_over fs i p over =
      sym (ap (λ gs. merge_found K n ls gs p) (sym (take-append-drop i fs)) ∙ found_append (take i fs) (drop i fs) p ∙ stopped K n ls (drop i fs) (merge_found K n ls (take i fs) p) over)

  module _ (fs : List (ℕ × ℕ)) (i : ℕ) (within : i < length fs) (p : Point) where
    one_more : merge_found K n ls (take (i + 1) fs) p ≡ merge_found K n ls (get_or fs i (0, 0) ∷ []) (merge_found K n ls (take i fs) p)
    one_more = ap (λ gs. merge_found K n ls gs p) (take_more fs i (0, 0) within) ∙ found_append (take i fs) (get_or fs i (0, 0) ∷ []) p

    -- a pair that is in one group already is passed over
    pub found_passed : let q = merge_found K n ls (take i fs) p in after q.done (get_or fs i (0, 0)).0 ≡ after q.done (get_or fs i (0, 0)).1 → merge_found K n ls (take i fs) p ≡ merge_found K n ls (take (i + 1) fs) p
    found_passed same =
        let q = merge_found K n ls (take i fs) p in
        let f = get_or fs i (0, 0) in
        sym (one_more ∙ ap (λ b. cond b q (merge K n ls q (merger (after q.done f.0) (after q.done f.1) Scan q.scans))) (or_right (ended K n ls q) _ (eq-eqb _ _ same)))

    -- another is merged
    pub found_merged : let q = merge_found K n ls (take i fs) p in ended K n ls q ≡ false → (after q.done (get_or fs i (0, 0)).0 ≡ after q.done (get_or fs i (0, 0)).1 → ⊥)
        → merge K n ls q (merger (after q.done (get_or fs i (0, 0)).0) (after q.done (get_or fs i (0, 0)).1) Scan q.scans) ≡ merge_found K n ls (take (i + 1) fs) p
    found_merged on apart =
        let q = merge_found K n ls (take i fs) p in
        let f = get_or fs i (0, 0) in
        sym (one_more ∙ ap (λ b. cond b q (merge K n ls q (merger (after q.done f.0) (after q.done f.1) Scan q.scans))) (or_from (ended K n ls q) _ on (ne_eqb _ _ apart)))

-- the point when i of the found pairs have been looked at
abbrev pub looked : {W : Type 0} (g : Ghosts W) → ℕ → List (Link g.Value) → Found → ℕ → Point → Point
looked g n ls found i p = merge_found (kind_of g) n ls (take i (pairs_of found)) p

-- a and b are the groups of the found pair at i
pub record PairGroups (found : Found) (i : ℕ) (groups : Groups) (a b : ℕ) : Type 0 where
  pub within : i < length (pairs_of found)
  pub pair : ℕ × ℕ
  pub pair_is : pair ≡ get_or (pairs_of found) i (0, 0)
  pub one : pair.0 < groups.units
  pub other : pair.1 < groups.units
  pub a_is : a ≡ get_or groups.names pair.0 0
  pub b_is : b ≡ get_or groups.names pair.1 0

-- the memory of the work when i pairs have been looked at, and the groups of the pair at i
module _ {W : Type 0} (g : Ghosts W) (n : ℕ) (ls : List (Link g.Value)) (found : Found) (i : ℕ) (p : Point)
    (table : List W) (groups : Groups) (progress : Progress W) (marks : List ℕ) (entries : List Entry)
    (was : At g n ls (looked g n ls found i p) table groups progress marks entries) (a b : ℕ) (are : PairGroups found i groups a b) where
  group_of : (x c : ℕ) → x < groups.units → c ≡ get_or groups.names x 0 → c ≡ after (looked g n ls found i p).done x
  group_of x c l is = is ∙ was.explains.tracks.names x (rw was.explains.tracks.units at l)

  stood : (x c : ℕ) → x < groups.units → c ≡ get_or groups.names x 0 → stands n (looked g n ls found i p).done c ≡ true
  stood x c l is = rw (group_of x c l is) (lands n (looked g n ls found i p).done (named n (looked g n ls found i p).done was.explains.joins) x (rw was.explains.tracks.units at l))

  a_at : a ≡ after (looked g n ls found i p).done (get_or (pairs_of found) i (0, 0)).0
  a_at = group_of are.pair.0 a are.one are.a_is ∙ ap (λ (f : ℕ × ℕ). after (looked g n ls found i p).done f.0) are.pair_is

  b_at : b ≡ after (looked g n ls found i p).done (get_or (pairs_of found) i (0, 0)).1
  b_at = group_of are.pair.1 b are.other are.b_is ∙ ap (λ (f : ℕ × ℕ). after (looked g n ls found i p).done f.1) are.pair_is

  -- one group already: the pair is passed over
  pub at_passed : a ≡ b → At g n ls (looked g n ls found (i + 1) p) table groups progress marks entries
  at_passed same = subst (λ q. At g n ls q table groups progress marks entries) (found_passed (kind_of g) n ls (pairs_of found) i are.within p (sym a_at ∙ same ∙ b_at)) was

  module _ (apart : a ≡ b → ⊥) (e : Entry) (e-is : e ≡ merger a b Scan progress.scans) where
    pub pair_stands : (e.low < e.high) × (stands n (looked g n ls found i p).done e.low ≡ true) × (stands n (looked g n ls found i p).done e.high ≡ true)
    pair_stands = merger_stands n (looked g n ls found i p).done a b e Scan progress.scans e-is (stood are.pair.0 a are.one are.a_is) (stood are.pair.1 b are.other are.b_is) apart

    pub pair_merged : ended (kind_of g) n ls (looked g n ls found i p) ≡ false → merge (kind_of g) n ls (looked g n ls found i p) e ≡ looked g n ls found (i + 1) p
    pair_merged on =
        ap (merge (kind_of g) n ls (looked g n ls found i p)) (e-is ∙ same_merger a b _ _ Scan _ _ a_at b_at was.scans)
        ∙ found_merged (kind_of g) n ls (pairs_of found) i are.within p on (λ h. apart (a_at ∙ h ∙ sym b_at))
