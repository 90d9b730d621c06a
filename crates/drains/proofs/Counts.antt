-- How many of the first n groups wait.
use Rattle.std.proofs.Common.{◌≡◌, ℕ, zero, suc, ◌+◌, ◌<◌, ◌≤◌, Bool, true, false, cond, is_some, Some, None, Option, refl, ap, ◌∙◌, ⊎_elim, arith}
use Rattle.std.proofs.lemmas.Map.{update_here, update_apart}
use Rattle.std.proofs.lemmas.Bool.{cases_lt, cases_eq}
use Rattle.queues.specs.Keys.{Becomes}

abbrev pub bit : Bool → ℕ
bit b = cond b 1 0

unfoldable pub waiting_to : {W : Type 0} → (ℕ → Option W) → ℕ → ℕ
waiting_to key zero = 0
waiting_to key (suc n) = bit (is_some (key n)) + waiting_to key n

bit_most : (b : Bool) → bit b ≤ 1
bit_most true = omega arith
bit_most false = omega arith

pub waiting_most : {W : Type 0} (key : ℕ → Option W) (n : ℕ) → waiting_to key n ≤ n
unfolding waiting_to
waiting_most key zero = omega arith
waiting_most key (suc n) = let a = waiting_most key n in let b = bit_most (is_some (key n)) in omega arith

module _ {W : Type 0} (before after : ℕ → Option W) (g : ℕ) (step : Becomes before after g None) where
  untouched : (n : ℕ) → n ≤ g → waiting_to after n ≡ waiting_to before n
  unfolding waiting_to
  untouched zero h = refl
  untouched (suc n) h =
      let a = untouched n (omega arith) in
      let b : bit (is_some (after n)) ≡ bit (is_some (before n)) = ap (λ o. bit (is_some o)) (step n ∙ update_apart before g None n (λ e. omega arith)) in
      omega arith

  -- one that waited is gone
  pub waiting_less : (n : ℕ) → g < n → (k : W) → before g ≡ Some k → waiting_to after n + 1 ≡ waiting_to before n
  unfolding waiting_to
  waiting_less zero h k was = absurd (omega arith)
  waiting_less (suc n) h k was = ⊎_elim
      (λ (e : n ≡ g).
      let a = untouched n (omega arith) in
      let b : bit (is_some (before n)) ≡ 1 = ap (λ o. bit (is_some o)) (ap before e ∙ was) in
      let c : bit (is_some (after n)) ≡ 0 = ap (λ o. bit (is_some o)) (ap after e ∙ step g ∙ update_here before g None) in
      omega arith)
      (λ (ne : n ≡ g → ⊥).
      let a = waiting_less n (⊎_elim (λ (l : g < n). l) (λ (m : n ≤ g). absurd (ne (omega arith))) (cases_lt g n)) k was in
      let b : bit (is_some (after n)) ≡ bit (is_some (before n)) = ap (λ o. bit (is_some o)) (step n ∙ update_apart before g None n ne) in
      omega arith)
      (cases_eq n g)
