-- Fields that were read where a cursor stands, and bytes put together from neighbouring pieces.
use Rattle.std.proofs.Common.{◌≡◌, ℕ, ◌+◌, ◌<◌, List, [], ◌∷◌, ◌++◌, length, take, drop, IfOk, Option, Result, ap, ◌∙◌, subst}
use Rattle.std.proofs.Math.Seq.{take-add}
use Rattle.std.proofs.lemmas.List.{drop-drop, drop_more}
use Rattle.refusals.specs.declared.Refusal.{Refusal}
use Rattle.sheets.specs.declared.fault.Fault.{Fault}
use Rattle.sheets.specs.declared.fault.Part.{Part}
use Rattle.sheets.specs.Fields.{byte_at, bytes_at}
use Rattle.readers.specs.declared.cursor.Cursor.{Cursor}
use Rattle.readers.specs.Reading.{Taken}
use Rattle.readers.specs.Steps.{Stands, Took}

-- a field in the terms of the bytes and of the index at which the cursor stands
pub at_place : {X : Type 0} (V : List ℕ → ℕ → Option Refusal) (P : List ℕ → ℕ → X → Type 0) (part : Part) (n : ℕ) (r : Result X Fault) (b a : Cursor) (bs : List ℕ) (p : ℕ) (was : Part)
    → Stands bs p b → was ≡ part → Took b was n (V b.bytes.now b.at) r a (P b.bytes.now b.at)
    → Taken bs p n part (V bs p) r (P bs p) × IfOk r (λ _. Stands bs (p + n) a) × (a.part ≡ part)
at_place V P part n r b a bs p was s e t =
    let F : List ℕ → ℕ → Part → Type 0 = λ x q w. Taken x q n w (V x q) r (P x q) × IfOk r (λ _. Stands x (q + n) a) × (a.part ≡ w) in
    subst (λ w. F bs p w) e (subst (λ q. F bs q was) s.place (subst (λ x. F x b.at was) s.bytes (t.taken, t.moved, t.within)))

-- the bytes of two neighbouring pieces
pub bytes_join : (bs : List ℕ) (p m n : ℕ) → bytes_at bs p (m + n) ≡ bytes_at bs p m ++ bytes_at bs (p + m) n
bytes_join bs p m n = take-add m n (drop p bs) ∙ ap (λ ys. take m (drop p bs) ++ take n ys) (drop-drop m p bs)

pub byte_alone : (bs : List ℕ) (p : ℕ) → p < length bs → bytes_at bs p 1 ≡ byte_at bs p ∷ []
byte_alone bs p h = ap (take 1) (drop_more bs p 0 h)
