-- What an order of taking, heaviest key first, gives: no division that parts a found pair weighs less than the cap.
use Rattle.std.proofs.Common.{◌≡◌, ℕ, ◌+◌, ◌≤◌, Bool, true, false, eqb, ◌⊎◌, List, [], ◌∷◌, sym, ◌∙◌, inl, inr, ⊎_elim, arith}
use Rattle.std.proofs.lemmas.Bool.{or_parts}
use Rattle.weights.specs.Laws.{limit}
use Rattle.cuts.specs.Kinds.{Kind, Lawful, AtMost}
use Rattle.cuts.specs.Scans.{has}
use Rattle.cuts.proofs.Rules.{weigh, heft, Two, cuts, cuts_in, into, cut, pull}
use Rattle.cuts.proofs.Sums.{fits, trans_at, weigh_mono, transfer}
use Rattle.cuts.proofs.Points.{two_cuts, two_into, two_in, scan_first, scan_kept, scan_turned, in_one, into_one, more_point, inner_point, part_point}
use Rattle.cuts.proofs.Moves.{differing}

-- taken one by one, the last in front, each with a heaviest key of those that waited, or one that comes to the cap
abbrev pub Taken : {V : Type 0} → Kind V → List (ℕ × ℕ × V) → (ℕ → Bool) → V → List ℕ → Type 0
Taken K ls G cap [] = Unit
Taken K ls G cap (b ∷ T) =
    (G b ≡ true) × (has T b ≡ false)
    × ((w : ℕ) → G w ≡ true → has T w ≡ false → AtMost K (pull K ls (has T) w) (pull K ls (has T) b) ⊎ AtMost K cap (pull K ls (has T) b))
    × Taken K ls G cap T

module _ {V : Type 0} (K : Kind V) (laws : Lawful K) (ls : List (ℕ × ℕ × V)) (light : heft K ls + heft K ls ≤ limit) where
  capped_in : (cap : V) → K.amount cap ≤ limit → (S G : ℕ → Bool) (v : ℕ) (T : List ℕ) → Taken K ls G cap (v ∷ T) → (w : ℕ) → G w ≡ true → has (v ∷ T) w ≡ false → (S v ≡ S w → ⊥) → AtMost K (pull K ls (has (v ∷ T)) w) (weigh K ls (cuts_in (has (w ∷ v ∷ T)) S)) ⊎ AtMost K cap (weigh K ls (cuts_in (has (w ∷ v ∷ T)) S))
  capped_in cap fit S G b [] legal w here out parted =
      inl (weigh_mono K laws ls light (into (has (b ∷ [])) w) (cuts_in (has (w ∷ b ∷ [])) S) (λ x y. scan_first S b w x y parted) (two_in (has (w ∷ b ∷ [])) S))
  capped_in cap fit S G b (a ∷ T) legal w here out parted =
      let waits = (or_parts (eqb w b) (has (a ∷ T) w) out).1 in
      let before = has (a ∷ T) in
      let U = has (w ∷ b ∷ a ∷ T) in
      let now = cuts_in U S in
      let turnedIn = cuts_in (has (b ∷ a ∷ T)) S in
      let keptIn = cuts_in (has (w ∷ a ∷ T)) S in
      let with-key : Two (λ x y. now x y + into before w x y) = λ x y. omega (arith, in_one U S x y, into_one before w x y waits) in
      let with-cut = λ (V : ℕ → Bool) (x y : ℕ). let p = in_one U S x y in let q = in_one V S x y in let k : cuts_in U S x y + cuts_in V S x y ≤ 2 = omega arith in k in
      let widen = λ (V : ℕ → Bool) (less : (x y : ℕ) → cuts_in V S x y ≤ now x y) (h : AtMost K cap (weigh K ls (cuts_in V S))). laws.trans _ _ _ fit (fits K laws ls light _ (two_in V S)) (fits K laws ls light _ (two_in U S)) h (weigh_mono K laws ls light (cuts_in V S) now less (two_in U S)) in
      ⊎_elim
      (λ turned. ⊎_elim
      (λ k. ⊎_elim
      (λ h. inl (transfer K laws ls light (into before w) turnedIn (into (has (b ∷ a ∷ T)) w) now (λ x y. scan_turned S before b w x y parted legal.1 waits) with-key (with-cut (has (b ∷ a ∷ T)))
      (trans_at K laws ls light (into before w) (into before b) turnedIn (two_into before w) (two_into before b) (two_in (has (b ∷ a ∷ T)) S) h k)))
      (λ h. inr (widen (has (b ∷ a ∷ T)) (λ x y. more_point S (has (b ∷ a ∷ T)) w x y)
      (laws.trans _ _ _ fit (fits K laws ls light _ (two_into before b)) (fits K laws ls light _ (two_in (has (b ∷ a ∷ T)) S)) h k)))
      (legal.2 w here waits))
      (λ h. inr (widen (has (b ∷ a ∷ T)) (λ x y. more_point S (has (b ∷ a ∷ T)) w x y) h))
      (capped_in cap fit S G a T legal.3 b legal.0 legal.1 (λ e. parted (sym e ∙ turned))))
      (λ kept. ⊎_elim
      (λ k. inl (transfer K laws ls light (into before w) keptIn (into (has (b ∷ a ∷ T)) w) now (λ x y. scan_kept S before b w x y parted legal.1 waits) with-key (with-cut (has (w ∷ a ∷ T))) k))
      (λ h. inr (widen (has (w ∷ a ∷ T)) (λ x y. inner_point S before b w x y) h))
      (capped_in cap fit S G a T legal.3 w here waits kept))
      (differing (S a) (S w))

  pub capped_scan : (cap : V) → K.amount cap ≤ limit → (G : ℕ → Bool) (v : ℕ) (T : List ℕ) → Taken K ls G cap (v ∷ T) → (w : ℕ) → G w ≡ true → has (v ∷ T) w ≡ false → AtMost K cap (pull K ls (has (v ∷ T)) w) → ((S : ℕ → Bool) → (S v ≡ S w → ⊥) → AtMost K cap (cut K ls S))
  capped_scan cap fit G v T legal w here out h S parted =
      let U = has (w ∷ v ∷ T) in
      let all = λ (k : AtMost K cap (weigh K ls (cuts_in U S))). laws.trans _ _ _ fit (fits K laws ls light _ (two_in U S)) (fits K laws ls light _ (two_cuts S)) k (weigh_mono K laws ls light (cuts_in U S) (cuts S) (part_point S U) (two_cuts S)) in
      ⊎_elim (λ k. all (laws.trans _ _ _ fit (fits K laws ls light _ (two_into (has (v ∷ T)) w)) (fits K laws ls light _ (two_in U S)) h k)) all (capped_in cap fit S G v T legal w here out parted)
