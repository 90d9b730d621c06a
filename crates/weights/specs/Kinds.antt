-- The kinds of weight, as the numbers that they stand for.
use Rattle.std.specs.Prelude.{ℕ, ◌+◌, Bool, cond, ◌&&◌, ◌||◌, ◌==◌, nat_le, nat_lt}

-- Plain, kind byte 1: the conductors, which are the amount.
abbrev pub plain_tag : ℕ
plain_tag = 1

abbrev pub plain_plus : ℕ → ℕ → ℕ
plain_plus x y = x + y

abbrev pub plain_le : ℕ → ℕ → Bool
plain_le x y = nat_le x y

abbrev pub plain_size : ℕ → ℕ
plain_size x = x

abbrev pub plain_of : (ℕ → ℕ) → ℕ
plain_of f = f 0

abbrev pub plain_nth : ℕ → ℕ → ℕ
plain_nth x i = cond (i == 0) x 0

-- Ranked, kind byte 2: safety conductors, then the other ones; the amount is both together.
abbrev pub ranked_tag : ℕ
ranked_tag = 2

abbrev pub ranked_plus : ℕ × ℕ → ℕ × ℕ → ℕ × ℕ
ranked_plus x y = (x.0 + y.0, x.1 + y.1)

abbrev pub ranked_le : ℕ × ℕ → ℕ × ℕ → Bool
ranked_le x y = nat_lt x.0 y.0 || (x.0 == y.0 && nat_le x.1 y.1)

abbrev pub ranked_size : ℕ × ℕ → ℕ
ranked_size x = x.0 + x.1

abbrev pub ranked_of : (ℕ → ℕ) → ℕ × ℕ
ranked_of f = (f 0, f 1)

abbrev pub ranked_nth : ℕ × ℕ → ℕ → ℕ
ranked_nth x i = cond (i == 0) x.0 (cond (i == 1) x.1 0)
