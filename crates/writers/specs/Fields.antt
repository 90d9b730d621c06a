-- Fields put one after the other into lent bytes.
use Rattle.std.specs.Prelude.{◌≡◌, ℕ, ◌+◌, ◌≤◌, List, ◌++◌, length, take, drop}
use Rattle.writers.specs.declared.pen.Pen.{Pen}

-- there is room for a field at an index
abbrev pub Room : List ℕ → ℕ → List ℕ → Type 0
Room bytes at field = at + length field ≤ length bytes

-- a field was put at an index: `next` is the index after it, and the bytes before and after the field stay
pub record Put (before : List ℕ) (at : ℕ) (field : List ℕ) (next : ℕ) (after : List ℕ) : Type 0 where
  pub follows : next ≡ at + length field
  pub size : length after ≡ length before
  pub front : take next after ≡ take at before ++ field
  pub rest : drop next after ≡ drop next before

-- there is room for a field where the pen stands
abbrev pub Fits : Pen → List ℕ → Type 0
Fits pen field = Room pen.out.now pen.at field

-- the pen put a field into the bytes that were lent to it, and stands after it
pub record Wrote (before : Pen) (field : List ℕ) (after : Pen) : Type 0 where
  pub lent : after.out.ghost_name ≡ before.out.ghost_name
  pub put : Put before.out.now before.at field after.at after.out.now
