-- What a drain keeps from one taken entry to the next.
use Rattle.std.proofs.Common.{◌≡◌, ℕ, ◌+◌, ◌<◌, Bool, true, false, cond, eqb, List, [], ◌∷◌, ◌++◌, length, take, drop, set, Some, None, Option, sym, refl, ap, ◌∙◌, ⊎_elim, arith}
use Rattle.std.proofs.lemmas.List.{append-nil, take_more_set, drop-drop, drop-set-lt}
use Rattle.std.proofs.lemmas.Map.{update_here, update_apart}
use Rattle.std.proofs.lemmas.Bool.{cases_eq, cond-true, cond-false, eq-eqb, ne_eqb}
use Rattle.queues.specs.Keys.{Empty, Becomes, Heaviest}
use Rattle.drains.specs.Outcome.{keys_for, once, NoneAbove, NeverRising, Drained}

-- every key that came out is at least k
abbrev pub NoneBelow : {W : Type 0} → (W → W → Bool) → W → List (ℕ × W) → Type 0
NoneBelow le k [] = Unit {0}
NoneBelow le k (p ∷ out) = (le k p.1 ≡ true) × NoneBelow le k out

-- `first` are the entries at the start, `key` those that are left
pub record Draining {W : Type 0} (le : W → W → Bool) (first key : ℕ → Option W) (out : List (ℕ × W)) : Type 0 where
  pub entries : (g : ℕ) → keys_for g out ++ once (key g) ≡ once (first g)
  pub falling : NeverRising le out
  pub heavier : (g : ℕ) (k : W) → key g ≡ Some k → NoneBelow le k out

pub drain_none : {W : Type 0} (le : W → W → Bool) (key : ℕ → Option W) → Draining le key key []
drain_none le key = record { entries = λ g. refl; falling = tt; heavier = λ g k e. tt }

pub drain_all : {W : Type 0} (le : W → W → Bool) (first key : ℕ → Option W) (out : List (ℕ × W)) → Empty key → Draining le first key out → Drained le first out
drain_all le first key out none d = record {
  entries = λ g. sym (append-nil (keys_for g out)) ∙ ap (λ o. keys_for g out ++ once o) (sym (none g)) ∙ d.entries g;
  falling = d.falling;
}

module _ {W : Type 0} (le : W → W → Bool) (p : ℕ × W) where
  none_above_push : (k : W) (out : List (ℕ × W)) → NoneAbove le k out → le p.1 k ≡ true → NoneAbove le k (out ++ (p ∷ []))
  none_above_push k [] a e = (e, tt)
  none_above_push k (q ∷ out) a e = (a.0, none_above_push k out a.1 e)

  falling_push : (out : List (ℕ × W)) → NeverRising le out → NoneBelow le p.1 out → NeverRising le (out ++ (p ∷ []))
  falling_push [] f b = (tt, tt)
  falling_push (q ∷ out) f b = (none_above_push q.1 out f.0 b.0, falling_push out f.1 b.1)

  none_below_push : (k : W) (out : List (ℕ × W)) → NoneBelow le k out → le k p.1 ≡ true → NoneBelow le k (out ++ (p ∷ []))
  none_below_push k [] b e = (e, tt)
  none_below_push k (q ∷ out) b e = (b.0, none_below_push k out b.1 e)

-- the keys of a group, with one more entry
keys_own : {W : Type 0} (g : ℕ) (k : W) (out : List (ℕ × W)) → keys_for g (out ++ ((g, k) ∷ [])) ≡ keys_for g out ++ (k ∷ [])
keys_own g k [] = cond-true (eqb g g) (k ∷ []) [] (eq-eqb g g refl)
keys_own {W} g k (q ∷ out) =
    let h = keys_own g k out in
    elim (eqb q.0 g) as (λ b. cond b (q.1 ∷ keys_for g (out ++ ((g, k) ∷ []))) (keys_for g (out ++ ((g, k) ∷ []))) ≡ cond b (q.1 ∷ keys_for g out) (keys_for g out) ++ (k ∷ [])) [ true ↦ ap (λ (l : List W). q.1 ∷ l) h | false ↦ h ]

keys_other : {W : Type 0} (g h : ℕ) (k : W) (out : List (ℕ × W)) → (g ≡ h → ⊥) → keys_for g (out ++ ((h, k) ∷ [])) ≡ keys_for g out
keys_other g h k [] ne = cond-false (eqb h g) (k ∷ []) [] (ne_eqb h g (λ e. ne (sym e)))
keys_other {W} g h k (q ∷ out) ne =
    let r = keys_other g h k out ne in
    ap (λ (l : List W). cond (eqb q.0 g) (q.1 ∷ l) l) r

module _ {W : Type 0} (le : W → W → Bool) (first before after : ℕ → Option W) (out : List (ℕ × W)) (d : Draining le first before out) (g : ℕ) (k : W) (top : Heaviest le before g k) (step : Becomes before after g None) where
  gone : after g ≡ None
  gone = step g ∙ update_here before g None

  waited : (h : ℕ) (v : W) → after h ≡ Some v → before h ≡ Some v
  waited h v e = ⊎_elim
      (λ (s : h ≡ g). let z = ap after s in let y = gone in let x : ◌≡◌ {A = ℕ} 0 1 = cc in absurd (omega arith))
      (λ (ne : h ≡ g → ⊥). sym (update_apart before g None h ne) ∙ sym (step h) ∙ e)
      (cases_eq h g)

  drain_more : Draining le first after (out ++ ((g, k) ∷ []))
  drain_more = record {
    entries = λ h. ⊎_elim
        (λ (s : h ≡ g). rw s (ap (λ o. keys_for g (out ++ ((g, k) ∷ [])) ++ once o) gone ∙ append-nil _ ∙ keys_own g k out ∙ ap (λ o. keys_for g out ++ once o) (sym top.here) ∙ d.entries g))
        (λ (ne : h ≡ g → ⊥). ap (λ l. l ++ once (after h)) (keys_other h g k out ne) ∙ ap (λ o. keys_for h out ++ once o) (step h ∙ update_apart before g None h ne) ∙ d.entries h)
        (cases_eq h g);
    falling = falling_push le (g, k) out d.falling (d.heavier g k top.here);
    heavier = λ h v e. let w = waited h v e in none_below_push le (g, k) v out (d.heavier h v w) (top.most h v w);
  }

-- a write leaves what stands after it
pub drop_more_set : {X : Type 0} (xs old : List X) (i : ℕ) (x : X) → drop i xs ≡ drop i old → drop (i + 1) (set xs i x) ≡ drop (i + 1) old
drop_more_set xs old i x e = drop-set-lt (i + 1) xs i x (omega arith) ∙ sym (drop-drop 1 i xs) ∙ ap (λ l. drop 1 l) e ∙ drop-drop 1 i old

-- the entry taken is written after the others
pub drain_set : {W : Type 0} (le : W → W → Bool) (first before after : ℕ → Option W) (xs : List (ℕ × W)) (i : ℕ) (p : ℕ × W) → i < length xs → Draining le first before (take i xs) → Heaviest le before p.0 p.1 → Becomes before after p.0 None → Draining le first after (take (i + 1) (set xs i p))
drain_set le first before after xs i p room d top step = rw (take_more_set xs i p room) (drain_more le first before after (take i xs) d p.0 p.1 top step)
