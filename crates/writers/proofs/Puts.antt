-- Fields put one after the other.
use Rattle.std.proofs.Common.{◌≡◌, ℕ, ◌+◌, ◌-◌, ◌<◌, ◌≤◌, List, [], ◌∷◌, ◌++◌, length, take, drop, set, sym, refl, ap, ◌∙◌, subst, arith}
use borrow.Rule.Slice.PartMut.{put_mid}
use Rattle.std.proofs.lemmas.List.{append-nil, append_assoc, length-append, length-set, length-take-le, length-drop, take-append-drop, take_more_set, drop-set-lt, drop-drop}
use Rattle.std.proofs.lemmas.Slice.{take-put_mid, drop-put_mid}
use Rattle.writers.specs.declared.pen.Pen.{Pen}
use Rattle.writers.specs.Fields.{Put, Room, Wrote}

-- the same bytes by another name
pub put_same : {xs ys f q : List ℕ} {at n : ℕ} → f ≡ q → Put xs at f n ys → Put xs at q n ys
put_same {xs} {ys} {f} {q} {at} {n} e p = subst (λ t. Put xs at t n ys) e p

-- no byte put
pub put_none : (xs : List ℕ) (at : ℕ) → Put xs at [] at xs
put_none xs at = record { follows = omega arith; size = refl; front = sym (append-nil (take at xs)); rest = refl }

pub put_one : (xs : List ℕ) (at b : ℕ) → at < length xs → Put xs at (b ∷ []) (at + 1) (set xs at b)
put_one xs at b h = record {
  follows = refl;
  size = length-set xs at b;
  front = take_more_set xs at b h;
  rest = drop-set-lt (at + 1) xs at b (omega arith);
}

-- a part of the bytes was written over
pub put_part : (xs ys zs : List ℕ) (at : ℕ) → zs ≡ ys → at + length ys ≤ length xs → length (put_mid at (at + length ys - at) xs zs) ≡ length xs → Put xs at ys (at + length ys) (put_mid at (at + length ys - at) xs zs)
put_part xs ys zs at same h size =
    let len = ap length same in
    record {
      follows = refl;
      size = size;
      front = take-put_mid at (at + length ys - at) xs zs (at + length ys) (omega arith) (omega arith) ∙ ap (λ q. take at xs ++ q) same;
      rest = drop-put_mid at (at + length ys - at) xs zs (at + length ys) (omega arith) (omega arith) (omega arith);
    }

-- the same, where the bytes keep their length by that
pub put_over : (xs ys zs : List ℕ) (at : ℕ) → zs ≡ ys → at + length ys ≤ length xs → Put xs at ys (at + length ys) (put_mid at (at + length ys - at) xs zs)
put_over xs ys zs at same h =
    let len = ap length same in
    let n = at + length ys in
    let out = put_mid at (n - at) xs zs in
    let front = take-put_mid at (n - at) xs zs n (omega arith) (omega arith) in
    let rest = drop-put_mid at (n - at) xs zs n (omega arith) (omega arith) (omega arith) in
    let a = length-append (take at xs) zs in
    let b = length-append (take n out) (drop n out) in
    let c = length-take-le at xs (omega arith) in
    let d = length-drop n xs in
    let e = ap length front in
    let f = ap length rest in
    let g = ap length (take-append-drop n out) in
    put_part xs ys zs at same h (omega arith)

-- what lies further back, too, stays
further : (m n : ℕ) (xs ys : List ℕ) → m ≤ n → drop m xs ≡ drop m ys → drop n xs ≡ drop n ys
further m n xs ys h e =
    let z : m + (n - m) ≡ n = omega arith in
    let x = drop-drop (n - m) m xs in
    let y = drop-drop (n - m) m ys in
    rw (← z) (cc)

-- a field and then another one
pub put_both : {xs ys zs f q : List ℕ} {at m n : ℕ} → Put xs at f m ys → Put ys m q n zs → Put xs at (f ++ q) n zs
put_both {xs} {ys} {zs} {f} {q} {at} {m} {n} a b =
    let l = length-append f q in
    record {
      follows = omega arith;
      size = b.size ∙ a.size;
      front = b.front ∙ (ap (λ t. t ++ q) a.front ∙ append_assoc (take at xs) f q);
      rest = b.rest ∙ further m n ys xs (omega arith) a.rest;
    }

-- room for three runs of fields is room for each where it goes
module _ (f q s : List ℕ) where
  three : length (f ++ (q ++ s)) ≡ length f + (length q + length s)
  three = length-append f (q ++ s) ∙ ap (λ n. length f + n) (length-append q s)

  pub room_second : {xs ys : List ℕ} {at m : ℕ} → Room xs at (f ++ (q ++ s)) → Put xs at f m ys → length ys ≡ length xs → Room ys m q
  room_second {xs} {ys} {at} {m} room a len = let l = three in let n = a.follows in omega arith

  pub room_third : {xs ys zs : List ℕ} {at m n : ℕ} → Room xs at (f ++ (q ++ s)) → Put xs at f m ys → Put ys m q n zs → length zs ≡ length xs → Room zs n s
  room_third {xs} {ys} {zs} {at} {m} {n} room a b len =
      let l = three in
      let first = a.follows in
      let second = b.follows in
      omega arith

-- the pen puts a field and then another one
pub wrote_both : {p q r : Pen} {f h : List ℕ} → Wrote p f q → Wrote q h r → Wrote p (f ++ h) r
wrote_both a b = record {
  lent = b.lent ∙ a.lent;
  put = put_both a.put b.put;
}
