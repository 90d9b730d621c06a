-- Sifting up and down keeps the order but at one place, and the first of all stands at the top.
use Rattle.std.proofs.Common.{◌≡◌, ℕ, zero, suc, ◌+◌, ◌-◌, ◌/◌, ◌<◌, ◌≤◌, Bool, true, false, Some, Option, sym, ap, ◌∙◌, ⊎_elim, arith}
use Rattle.std.proofs.lemmas.Bool.{cases_eq, cases_lt}
use Rattle.heaps.specs.Tree.{Child, Below, InOrder, Rising, Sinking, Swapped}
use Rattle.std.proofs.lemmas.Map.{update_here, update_apart}
use Rattle.queues.specs.Keys.{Becomes}
use Rattle.heaps.proofs.Ranks.{Ranked, first_self}

-- one place holds one thing
pub one : {X : Type 0} {o : Option X} {a b : X} → o ≡ Some a → o ≡ Some b → a ≡ b
one p q = cc

pub parent_of : (i : ℕ) → 0 < i → Child ((i - 1) / 2) i
parent_of i h = (omega arith, omega arith)

module _ {X : Type 0} (first : X → X → Bool) (ranks : Ranked first) (at : ℕ → Option X) (n : ℕ) where
  pub rise_end : (i : ℕ) → Rising first at n i → ((p : ℕ) → Child p i → Below first at p i) → InOrder first at n
  rise_end i r last p c child lt = ⊎_elim
      (λ (e : c ≡ i). rw e (last p (rw e at child)))
      (λ (ne : c ≡ i → ⊥). r.others p c child lt ne)
      (cases_eq c i)

  pub sink_end : (i : ℕ) → Sinking first at n i → ((c : ℕ) → Child i c → c < n → Below first at i c) → InOrder first at n
  sink_end i r last p c child lt = ⊎_elim
      (λ (e : p ≡ i). rw e (last c (rw e at child) lt))
      (λ (ne : p ≡ i → ⊥). r.others p c child lt ne)
      (cases_eq p i)

  module _ (after : ℕ → Option X) (x y : X) where
    pub rise : (i p : ℕ) → i < n → Child p i → Rising first at n i → at i ≡ Some x → at p ≡ Some y → first x y ≡ true → Swapped at after i p → Rising first after n p
    rise i p lt up r xi yp wins s = record {
      others = λ q c child under ne a b qa cb. ⊎_elim
          (λ (e : c ≡ i).
          let same : q ≡ p = omega arith in
          let eb : b ≡ y = one cb (ap after e ∙ s.left ∙ yp) in
          let ea : a ≡ x = one qa (ap after same ∙ s.right ∙ xi) in
          rw (eb, ea) (ranks.either x y wins))
          (λ (nc : c ≡ i → ⊥).
          let old : at c ≡ Some b = sym (s.rest c nc ne) ∙ cb in
          ⊎_elim
          (λ (e : q ≡ i).
          let ea : a ≡ y = one qa (ap after e ∙ s.left ∙ yp) in
          rw ea (r.across p c up (rw e at child) under y b yp old))
          (λ (nq : q ≡ i → ⊥). ⊎_elim
          (λ (e : q ≡ p).
          let ea : a ≡ x = one qa (ap after e ∙ s.right ∙ xi) in
          rw ea (ranks.chain b y x (r.others p c (rw e at child) under nc y b yp old) (ranks.either x y wins)))
          (λ (np : q ≡ p → ⊥). r.others q c child under nc a b (sym (s.rest q nq np) ∙ qa) old)
          (cases_eq q p))
          (cases_eq q i))
          (cases_eq c i);
      across = λ q c above child under a b qa cb.
          let oldq : at q ≡ Some a = sym (s.rest q (λ e. omega arith) (λ e. omega arith)) ∙ qa in
          let py : first y a ≡ false = r.others q p above (omega arith) (λ e. omega arith) a y oldq yp in
          ⊎_elim
          (λ (e : c ≡ i). let eb : b ≡ y = one cb (ap after e ∙ s.left ∙ yp) in rw eb py)
          (λ (nc : c ≡ i → ⊥).
          let old : at c ≡ Some b = sym (s.rest c nc (λ e. omega arith)) ∙ cb in
          ranks.chain b y a (r.others p c child under nc y b yp old) py)
          (cases_eq c i);
    }

    pub sink : (i e : ℕ) → Child i e → e < n → Sinking first at n i → at e ≡ Some x → at i ≡ Some y → first x y ≡ true → ((c : ℕ) → Child i c → c < n → Below first at e c) → Swapped at after i e → Sinking first after n e
    sink i e down lt r xe yi wins best s = record {
      others = λ q c child under ne a b qa cb. ⊎_elim
          (λ (same : q ≡ i).
          let ea : a ≡ x = one qa (ap after same ∙ s.left ∙ xe) in
          ⊎_elim
          (λ (ce : c ≡ e).
          let eb : b ≡ y = one cb (ap after ce ∙ s.right ∙ yi) in
          rw (ea, eb) (ranks.either x y wins))
          (λ (nc : c ≡ e → ⊥).
          let old : at c ≡ Some b = sym (s.rest c (λ z. omega arith) nc) ∙ cb in
          rw ea (best c (rw same at child) under x b xe old))
          (cases_eq c e))
          (λ (nq : q ≡ i → ⊥).
          let oldq : at q ≡ Some a = sym (s.rest q nq ne) ∙ qa in
          ⊎_elim
          (λ (ci : c ≡ i).
          let eb : b ≡ x = one cb (ap after ci ∙ s.left ∙ xe) in
          rw eb (r.across q e (rw ci at child) down lt a x oldq xe))
          (λ (nc : c ≡ i → ⊥).
          let nce : c ≡ e → ⊥ = λ z. nq (omega arith) in
          r.others q c child under nq a b oldq (sym (s.rest c nc nce) ∙ cb))
          (cases_eq c i))
          (cases_eq q i);
      across = λ q c above child under a b qa cb.
          let same : q ≡ i = omega arith in
          let ea : a ≡ x = one qa (ap after same ∙ s.left ∙ xe) in
          let old : at c ≡ Some b = sym (s.rest c (λ z. omega arith) (λ z. omega arith)) ∙ cb in
          rw ea (r.others e c child under (λ z. omega arith) x b xe old);
    }

  -- what stands at the top comes before all
  top_to : (m i : ℕ) → InOrder first at n → ((j : ℕ) → j < n → (z : X) × (at j ≡ Some z)) → i < m → i < n → (a b : X) → at 0 ≡ Some a → at i ≡ Some b → first b a ≡ false
  top_to zero i order all small lt a b ta ib = absurd (omega arith)
  top_to (suc m) i order all small lt a b ta ib = ⊎_elim
      (λ (e : i ≡ 0). let same : b ≡ a = one ib (ap at e ∙ ta) in rw same (first_self ranks a))
      (λ (ne : i ≡ 0 → ⊥).
      let p : ℕ = (i - 1) / 2 in
      let up = parent_of i (omega arith) in
      let z = all p (omega arith) in
      ranks.chain b z.0 a (order p i up lt z.0 b z.1 ib) (top_to m p order all (omega arith) (omega arith) a z.0 ta z.1))
      (cases_eq i 0)

  pub top_first : InOrder first at n → ((j : ℕ) → j < n → (z : X) × (at j ≡ Some z)) → (i : ℕ) → i < n → (a b : X) → at 0 ≡ Some a → at i ≡ Some b → first b a ≡ false
  top_first order all i lt a b ta ib = top_to (suc i) i order all (omega arith) lt a b ta ib

-- how a new entry, a heavier key and a removal disturb the order
module _ {X : Type 0} (first : X → X → Bool) (at after : ℕ → Option X) (n : ℕ) (order : InOrder first at n) where
  pub rising_new : (x : X) → Becomes at after n (Some x) → Rising first after (n + 1) n
  rising_new x w = record {
    others = λ p c child lt ne a b pa cb.
        let under : c < n = ⊎_elim (λ (l : c < n). l) (λ (m : n ≤ c). absurd (ne (omega arith))) (cases_lt c n) in
        order p c child under a b (sym (w p ∙ update_apart at n (Some x) p (λ z. omega arith)) ∙ pa) (sym (w c ∙ update_apart at n (Some x) c ne) ∙ cb);
    across = λ p c up child lt. absurd (omega arith);
  }

  pub rising_raised : Ranked first → (i : ℕ) (x y : X) → at i ≡ Some x → first x y ≡ false → Becomes at after i (Some y) → Rising first after n i
  rising_raised ranks i x y ix less w = record {
    others = λ p c child lt ne a b pa cb.
        let old : at c ≡ Some b = sym (w c ∙ update_apart at i (Some y) c ne) ∙ cb in
        ⊎_elim
        (λ (e : p ≡ i).
        let ea : a ≡ y = one pa (ap after e ∙ w i ∙ update_here at i (Some y)) in
        rw ea (ranks.chain b x y (order i c (rw e at child) lt x b ix old) less))
        (λ (np : p ≡ i → ⊥). order p c child lt a b (sym (w p ∙ update_apart at i (Some y) p np) ∙ pa) old)
        (cases_eq p i);
    across = λ p c up child lt a b pa cb.
        let oldp : at p ≡ Some a = sym (w p ∙ update_apart at i (Some y) p (λ z. omega arith)) ∙ pa in
        let oldc : at c ≡ Some b = sym (w c ∙ update_apart at i (Some y) c (λ z. omega arith)) ∙ cb in
        ranks.chain b x a (order i c child lt x b ix oldc) (order p i up (omega arith) a x oldp ix);
  }

  pub sinking_last : (m : ℕ) → n ≡ m + 1 → Swapped at after 0 m → Sinking first after m 0
  sinking_last m less s = record {
    others = λ p c child lt ne a b pa cb.
        order p c child (omega arith) a b (sym (s.rest p ne (λ z. omega arith)) ∙ pa) (sym (s.rest c (λ z. omega arith) (λ z. omega arith)) ∙ cb);
    across = λ p c up child lt. absurd (omega arith);
  }
