-- The tests of a pair, one by one, and the lowest ground.
use Rattle.std.proofs.Common.{◌≡◌, ℕ, ◌+◌, ◌<◌, ◌≤◌, Bool, true, false, ◌||◌, List, length, get_or, Some, None, Decides, MatchBool, refl, sym, subst, ap, ◌∙◌, ap₂, arith}
use Rattle.std.specs.List.{HoldsAt, AllWithin, range_with_len}
use Rattle.std.proofs.lemmas.Bool.{false≢true}
use Rattle.std.proofs.lemmas.Bool.Decides.{Decides-at, Decides-or, not_from_Decides}
use Rattle.std.proofs.lemmas.List.FromFn.{length-range_with_len, get_or-range_with_len}
use Rattle.weights.specs.Laws.{limit}
use Rattle.weights.specs.declared.weight.Weight.{Ghosts}
use Rattle.cuts.specs.declared.entry.Entry.{Entry}
use Rattle.cuts.specs.declared.ground.Ground.{Ground}
use Rattle.cuts.specs.declared.ground.Ground.TheVariants.{Heavy, Unbalanced, Triangle, Neighbourhood, Scan}
use Rattle.cuts.specs.Kinds.{Kind, Lawful, kind_of}
use Rattle.cuts.specs.Links.{Link}
use Rattle.cuts.specs.Numbers.{ground_number}
use Rattle.cuts.specs.Tests.{gathered, Meets}
use Rattle.cuts.proofs.Names.{stands_less}
use Rattle.tables.specs.declared.groups.Groups.{Groups}
use Rattle.tables.specs.Meaning.{at, Explains}
use Rattle.passes.specs.Passed.{Standing, Apex, Judged}
use Rattle.passes.proofs.Readings.{third_apart, joint_at, degree_low, degree_high}
use Rattle.passes.proofs.Fits.{twice_fits}

each : (P : Ground → Type 0) → P Heavy → P Unbalanced → P Triangle → P Neighbourhood → P Scan → (ground : Ground) → P ground
each P a b c d e Heavy = a
each P a b c d e Unbalanced = b
each P a b c d e Triangle = c
each P a b c d e Neighbourhood = d
each P a b c d e Scan = e

module _ {V : Type 0} (K : Kind V) (n : ℕ) (ls : List (Link V)) (es : List Entry) (best : V) (u v : ℕ) where
  -- a test of the code for a ground came out so
  abbrev Found : Bool → Ground → Type 0
  Found r ground = (test : Bool) × Decides test (Meets K n ls es best u v ground) × (test ≡ r)

  abbrev NotLower : Ground → Ground → Type 0
  NotLower ground other = Meets K n ls es best u v other → ground_number other < ground_number ground → ⊥

  met : (ground : Ground) → Found true ground → Meets K n ls es best u v ground
  met ground (test, decides, came) = decides.0 came

  failed : (ground : Ground) → Found false ground → Meets K n ls es best u v ground → ⊥
  failed ground (test, decides, came) = not_from_Decides test decides came

  pub heavy_judged : Found true Heavy → Judged K n ls es best u v (Some Heavy)
  heavy_judged m = (met Heavy m, each (NotLower Heavy) (λ o lt. omega arith) (λ o lt. omega arith) (λ o lt. omega arith) (λ o lt. omega arith) (λ o lt. omega arith))

  pub unbalanced_judged : Found false Heavy → Found true Unbalanced → Judged K n ls es best u v (Some Unbalanced)
  unbalanced_judged a m = (met Unbalanced m, each (NotLower Unbalanced) (λ o lt. failed Heavy a o) (λ o lt. omega arith) (λ o lt. omega arith) (λ o lt. omega arith) (λ o lt. omega arith))

  pub triangle_judged : Found false Heavy → Found false Unbalanced → Found true Triangle → Judged K n ls es best u v (Some Triangle)
  triangle_judged a b m = (met Triangle m, each (NotLower Triangle) (λ o lt. failed Heavy a o) (λ o lt. failed Unbalanced b o) (λ o lt. omega arith) (λ o lt. omega arith) (λ o lt. omega arith))

  pub neighbourhood_judged : Found false Heavy → Found false Unbalanced → Found false Triangle → Found true Neighbourhood → Judged K n ls es best u v (Some Neighbourhood)
  neighbourhood_judged a b c m = (met Neighbourhood m, each (NotLower Neighbourhood) (λ o lt. failed Heavy a o) (λ o lt. failed Unbalanced b o) (λ o lt. failed Triangle c o) (λ o lt. omega arith) (λ o lt. omega arith))

  pub none_judged : Found false Heavy → Found false Unbalanced → Found false Triangle → Found false Neighbourhood → Judged K n ls es best u v None
  none_judged a b c d = each (λ o. Meets K n ls es best u v o → ⊥) (failed Heavy a) (failed Unbalanced b) (failed Triangle c) (failed Neighbourhood d) (λ o. o)

itself : (b : Bool) → Decides b (b ≡ true)
itself b = (λ e. e, λ e. e)

-- whether some number has P, where each that has it is below n
some_below : (P : ℕ → Type 0) (n : ℕ) → ((w : ℕ) → P w → w < n) → (r : Bool)
    → MatchBool r ((k : ℕ) × (k < length (range_with_len 0 n)) × HoldsAt P (range_with_len 0 n) k) (AllWithin (λ w. P w → ⊥) (range_with_len 0 n) 0 (length (range_with_len 0 n)))
    → Decides r ((w : ℕ) × P w)
some_below P n below true some = (λ e. (_, some.2 0), λ m. refl)
some_below P n below false none = (
  λ e. absurd (false≢true e),
  λ m.
      let lt = below m.0 m.1 in
      let last : m.0 < length (range_with_len 0 n) = omega (arith, length-range_with_len 0 n) in
      let here : get_or (range_with_len 0 n) m.0 0 ≡ m.0 = omega (arith, get_or-range_with_len 0 n m.0 0 lt) in
      absurd (none m.0 0 (omega arith) last (subst P (sym here) m.1)),
)

-- the apexes that a search of the groups looks for
module _ {V : Type 0} (K : Kind V) (n : ℕ) (ls : List (Link V)) (es : List Entry) (best : V) (u v : ℕ) (r : Bool) where
  pub triangle_decided : (m : ℕ) → m ≡ n →
      MatchBool r
      ((k : ℕ) × (k < length (range_with_len 0 m)) × HoldsAt (Apex K n ls es u v) (range_with_len 0 m) k)
      (AllWithin (λ w. Apex K n ls es u v w → ⊥) (range_with_len 0 m) 0 (length (range_with_len 0 m)))
      → Decides r (Meets K n ls es best u v Triangle)
  triangle_decided m all h =
      let below : (w : ℕ) → Apex K n ls es u v w → w < m = λ w is. let lt = stands_less n es w (third_apart n es u v w is.0).0 in omega arith in
      let (there, back) = some_below (Apex K n ls es u v) m below r h in
      (λ e. let (w, m) = there e in (w, m.0, m.1, m.2), λ m. back (m.0, (m.1, m.2, m.3)))

pub neighbourhood_decided : {V : Type 0} (K : Kind V) (n : ℕ) (ls : List (Link V)) (es : List Entry) (best : V) (u v k : ℕ) (s : V) (r : Bool) → s ≡ gathered K n ls es u v k → k ≡ n → r ≡ K.at_most best s → Decides r (Meets K n ls es best u v Neighbourhood)
neighbourhood_decided K n ls es best u v k s r sum all t = Decides-at r _ (t ∙ ap (K.at_most best) (sum ∙ ap (gathered K n ls es u v) all)) (itself _)

-- the two tests that look at no third group
module _ {W : Type 0} {g : Ghosts W} {n : ℕ} {ls : List (Link g.Value)} {es : List Entry} {table : List W} {groups : Groups} (ex : Explains g n ls es table groups) {u v : ℕ} (pair : Standing groups n u v) (best x : g.Value) (here : x ≡ at g table n u v) (r : Bool) where
  pub heavy_decided : r ≡ g.le best x → Decides r (Meets (kind_of g) n ls es best u v Heavy)
  heavy_decided t = Decides-at r _ (t ∙ ap (g.le best) (here ∙ joint_at ex pair)) (itself _)

  pub unbalanced_decided : (a b : g.Value) → a ≡ at g table n u u → b ≡ at g table n v v → r ≡ (g.le a (g.plus x x) || g.le b (g.plus x x)) → Decides r (Meets (kind_of g) n ls es best u v Unbalanced)
  unbalanced_decided a b p q t =
      let joined = here ∙ joint_at ex pair in
      let low = ap₂ (λ d y. g.le d (g.plus y y)) (p ∙ degree_low ex pair) joined in
      let high = ap₂ (λ d y. g.le d (g.plus y y)) (q ∙ degree_high ex pair) joined in
      Decides-at r _ (t ∙ ap₂ ◌||◌ low high) (Decides-or _ _ (itself _) (itself _))

-- both, where the sum that the second forms is the sum if it is not refused
module _ {W : Type 0} {g : Ghosts W} {n : ℕ} {ls : List (Link g.Value)} {es : List Entry} {table : List W} {groups : Groups} (laws : Lawful (kind_of g)) (ex : Explains g n ls es table groups) {u v : ℕ} (pair : Standing groups n u v) (best x : g.Value) (here : x ≡ at g table n u v) where
  pub two_decided : (h r : Bool) (a b : g.Value) → h ≡ g.le best x → a ≡ at g table n u u → b ≡ at g table n v v → (g.size x + g.size x ≤ limit → r ≡ (g.le a (g.plus x x) || g.le b (g.plus x x)))
      → Decides h (Meets (kind_of g) n ls es best u v Heavy) × Decides r (Meets (kind_of g) n ls es best u v Unbalanced)
  two_decided h r a b heavy p q t = (heavy_decided ex pair best x here h heavy, unbalanced_decided ex pair best x here r a b p q (t (twice_fits laws ex pair x here)))
