-- That the two kinds of weight keep the laws.
use Rattle.std.specs.Prelude.{◌≡◌, ℕ, zero, suc, ◌<◌, refl}
use Rattle.std.proofs.Common.{arith}
use Rattle.std.proofs.lemmas.Bool.Decides.{nat_tests}
use Rattle.weights.specs.Laws.{Laws, Exact}
use Rattle.weights.specs.Kinds.{plain_plus, plain_le, plain_size, plain_of, plain_nth}
use Rattle.weights.specs.Kinds.{ranked_plus, ranked_le, ranked_size, ranked_of, ranked_nth}

pub plain_laws : Laws 0 plain_plus plain_le plain_size
plain_laws = record {
  neutral = λ a p. omega arith;
  comm = λ a b p. omega arith;
  assoc = λ a b c p. omega arith;
  amounts = λ a b p. refl;
  none = refl;
  only_none = λ a e. e;
  least = λ a p. grind (arith, nat_tests);
  total = λ a b p q. grind (arith, nat_tests);
  trans = λ a b c p q r s t. grind (arith, nat_tests);
  antisym = λ a b p q s t. grind (arith, nat_tests);
  grow = λ a b c p q s. grind (arith, nat_tests);
  shrink = λ a b c p q s. grind (arith, nat_tests);
}

pub plain_exact : Exact 1 plain_of plain_nth
plain_exact = record {
  some = omega arith;
  few = omega arith;
  holds = λ f i h. let e : i ≡ 0 = omega arith in rw e refl;
  past = λ v i h. grind (arith, nat_tests);
  back = λ v. refl;
  same = λ f g h. h 0 (omega arith);
}

pub pair : {s t o p : ℕ} → s ≡ t → o ≡ p → ◌≡◌ {A = ℕ × ℕ} (s, o) (t, p)
pair e f = cc

pub ranked_laws : Laws (0, 0) ranked_plus ranked_le ranked_size
ranked_laws = record {
  neutral = λ a p. pair (omega arith) (omega arith);
  comm = λ a b p. pair (omega arith) (omega arith);
  assoc = λ a b c p. pair (omega arith) (omega arith);
  amounts = λ a b p. omega arith;
  none = refl;
  only_none = λ a e. pair (omega arith) (omega arith);
  least = λ a p. grind (arith, nat_tests);
  total = λ a b p q. grind (arith, nat_tests);
  trans = λ a b c p q r s t. grind (arith, nat_tests);
  antisym = λ a b p q s t. pair (grind (arith, nat_tests)) (grind (arith, nat_tests));
  grow = λ a b c p q s. grind (arith, nat_tests);
  shrink = λ a b c p q s. grind (arith, nat_tests);
}

two : (f : ℕ → ℕ) (i : ℕ) → i < 2 → ranked_nth (ranked_of f) i ≡ f i
two f zero h = refl
two f (suc zero) h = refl
two f (suc (suc i)) h = absurd (omega arith)

pub ranked_exact : Exact 2 ranked_of ranked_nth
ranked_exact = record {
  some = omega arith;
  few = omega arith;
  holds = λ f i h. two f i h;
  past = λ v i h. grind (arith, nat_tests);
  back = λ v. refl;
  same = λ f g h. pair (h 0 (omega arith)) (h 1 (omega arith));
}
