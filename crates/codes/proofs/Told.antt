-- A code is told by its characters: two with the same ones are one value.
use Rattle.std.proofs.Common.{◌≡◌, ◌-◌, ◌≤◌, true, ◌++◌, length, take, drop, replicate, sym, ap, ◌∙◌, arith, take-append-drop}
use mathlib.Core.Bool.{Bool-set}
use mathlib.Core.List.{is_set}
use mathlib.Core.HLevel.{is_prop→PathP}
use native.Mathlib.Bridge.{le_prop}
use native.Mathlib.Nat.{ℕ_set}
use Rattle.std.proofs.lemmas.List.{length-take-le}
use Rattle.codes.specs.Code.{is_code}
use Rattle.codes.specs.Held.{bytes_of}
use Rattle.codes.specs.declared.code.FaultCode.{FaultCode}

pub holds_code : (c : FaultCode) → is_code (bytes_of c) ≡ true
holds_code c = c.code

pub len_is : (c : FaultCode) → length (bytes_of c) ≡ c.len
len_is c = length-take-le c.len c.bytes (omega (arith, c.size, c.within))

-- the characters and then the zeros
whole : (c : FaultCode) → c.bytes ≡ bytes_of c ++ replicate (7 - length (bytes_of c)) 0
whole c =
    sym (take-append-drop c.len c.bytes) ∙ ap (λ xs. bytes_of c ++ xs) (c.pad ∙ ap (λ n. replicate (7 - n) 0) (sym (len_is c)))

pub told : (a b : FaultCode) → bytes_of a ≡ bytes_of b → a ≡ b
told a b e =
    let p : a.bytes ≡ b.bytes = whole a ∙ (ap (λ cs. cs ++ replicate (7 - length cs) 0) e ∙ sym (whole b)) in
    let q : a.len ≡ b.len = sym (len_is a) ∙ (ap length e ∙ len_is b) in
    λ i. record {
      bytes = p i;
      len = q i;
      size = is_prop→PathP (λ j. length (p j) ≡ 7) (λ j. ℕ_set (length (p j)) 7) a.size b.size i;
      within = is_prop→PathP (λ j. q j ≤ 7) (λ j. le_prop) a.within b.within i;
      code = is_prop→PathP (λ j. is_code (take (q j) (p j)) ≡ true) (λ j. Bool-set (is_code (take (q j) (p j))) true) a.code b.code i;
      pad = is_prop→PathP (λ j. drop (q j) (p j) ≡ replicate (7 - q j) 0) (λ j. is_set ℕ_set (drop (q j) (p j)) (replicate (7 - q j) 0)) a.pad b.pad i;
    }
