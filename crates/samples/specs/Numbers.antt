-- The sequence of numbers that look random: a linear congruential generator of 64 bits.
use Rattle.std.specs.Prelude.{ℕ, ◌+◌, ◌*◌, ◌/◌, ◌%◌, ◌^◌}

-- the state that follows a state
abbrev pub following : ℕ → ℕ
following state = (state * 6364136223846793005 + 1442695040888963407) % 2 ^ 64

-- the upper 31 bits of a state, brought below a bound
abbrev pub reduced : ℕ → ℕ → ℕ
reduced state bound = state / 2 ^ 33 % bound
