-- How many of a scan's groups are marked.
use Rattle.std.proofs.Common.{◌≡◌, ℕ, ◌<◌, Bool, true, false, List, get_or, set, arith}
use Rattle.cuts.specs.Groups.{count_below}
use Rattle.cuts.proofs.Counts.{but, count_same, count_but}
use Rattle.tables.proofs.Trackings.{get_d_false}

-- how many of the first n are marked
abbrev pub marks : List Bool → ℕ → ℕ
marks ws n = count_below n (λ x. get_or ws x false)

-- a mark taken away is one fewer
pub marks_less : (ws : List Bool) (g n : ℕ) → g < n → get_or ws g false ≡ true → marks (set ws g false) n < marks ws n
marks_less ws g n lt was =
    let one = count_but n (λ x. get_or ws x false) g lt was in
    let same = count_same n (λ x. get_or (set ws g false) x false) (but (λ x. get_or ws x false) g) (λ x _. get_d_false ws g x) in
    omega arith
