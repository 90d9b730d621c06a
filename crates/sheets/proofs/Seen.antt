-- The bytes of a plan's sheet, seen as fields.
use Rattle.std.proofs.Common.{◌≡◌, ℕ, zero, suc, ◌+◌, ◌-◌, ◌*◌, ◌/◌, ◌%◌, ◌^◌, ◌<◌, ◌≤◌, true, eqb, ◌⊎◌, List, [], ◌∷◌, ◌++◌, length, get_or, take, drop, sym, refl, ap, ◌∙◌, ap₂, append-nil, ⊎_elim, suc-mul, add_comm, zero-mul, add-one, arith}
use native.Mathlib.Nat.{div-div-eq-div-mul}
use Rattle.std.specs.List.{flat_map, AllByRecursion}
use Rattle.std.proofs.ByRecursion.{All-get_or}
use Rattle.std.proofs.lemmas.List.{append_assoc, take_at, drop_at, take_more, drop-drop, get_or-take, get_or-drop, get_or_at, get_or_append_left, get_or-append_right, length-append, length_push}
use Rattle.std.proofs.lemmas.Bool.{cond-true, cond-false, eq-eqb, ne_eqb, cases_lt}
use Rattle.weights.specs.declared.weight.Weight.{Ghosts}
use Rattle.codes.specs.Code.{is_code}
use Rattle.codes.proofs.Decided.{decides_code}
use Rattle.plans.specs.declared.plan.Link.{Link}
use Rattle.plans.specs.Model.{Model}
use Rattle.sheets.specs.declared.issue.Issue.{Issue}
use Rattle.sheets.specs.declared.issue.Issue.TheVariants.{First, Second}
use Rattle.sheets.specs.Fields.{byte_at, bytes_at, issue_in, links_in, code_place, text_in, text_of, texts_in, link_place}
use Rattle.sheets.specs.Format.{Valid, code_field, size_of_code, four, fours, link_bytes, link_size, sheet_of}

-- a byte of a field
pub byte_in : (bs field : List ℕ) (at n i : ℕ) → bytes_at bs at n ≡ field → i < n → byte_at bs (at + i) ≡ get_or field i 0
byte_in bs field at n i e h = sym (get_or-drop at bs i 0) ∙ (sym (get_or-take n (drop at bs) i 0 h) ∙ ap (λ f. get_or f i 0) e)

-- pieces of one size: where the k-th stands
module _ {X : Type 0} (f : X → List ℕ) (s : ℕ) where
  pub length_joined : (xs : List X) → AllByRecursion (λ x. length (f x) ≡ s) xs → length (flat_map f xs) ≡ length xs * s
  length_joined [] h = sym (zero-mul s)
  length_joined (x ∷ xs) h = let r = length_joined xs h.1 in let e = h.0 in let m = suc-mul (length xs) s in let a = length-append (f x) (flat_map f xs) in omega arith

  pub piece_at : (xs : List X) (rest : List ℕ) (k : ℕ) (d : X) → AllByRecursion (λ x. length (f x) ≡ s) xs → k < length xs → take s (drop (k * s) (flat_map f xs ++ rest)) ≡ f (get_or xs k d)
  piece_at [] rest k d h lt = absurd (omega arith)
  piece_at (x ∷ xs) rest zero d h lt =
      ap (λ n. take s (drop n ((f x ++ flat_map f xs) ++ rest))) (zero-mul s)
      ∙ (ap (take s) (append_assoc (f x) (flat_map f xs) rest) ∙ take_at (f x) (flat_map f xs ++ rest) s h.0)
  piece_at (x ∷ xs) rest (suc k) d h lt =
      let size : suc k * s ≡ s + k * s = suc-mul k s ∙ add_comm (k * s) s in
      ap (λ n. take s (drop n ((f x ++ flat_map f xs) ++ rest))) size
      ∙ (ap (take s) (sym (drop-drop (k * s) s ((f x ++ flat_map f xs) ++ rest)))
      ∙ (ap (λ ys. take s (drop (k * s) (drop s ys))) (append_assoc (f x) (flat_map f xs) rest)
      ∙ (ap (λ ys. take s (drop (k * s) ys)) (drop_at (f x) (flat_map f xs ++ rest) s h.0)
      ∙ piece_at xs rest k d h.1 (omega arith))))

-- a code's seventh character is not zero
seventh : (text : List ℕ) → is_code text ≡ true → length text ≡ 7 → get_or text 6 0 ≡ 0 → ⊥
seventh text h n z =
    let c = ((decides_code text).0 h).later 6 (omega arith) (omega arith) in
    ⊎_elim (λ (a : (65 ≤ get_or text 6 0) × (get_or text 6 0 ≤ 90)). let b = a.0 in omega arith) (λ a. let b = a.0 in omega arith) c

pub six_or_seven : (text : List ℕ) → is_code text ≡ true → (length text ≡ 6) ⊎ (length text ≡ 7)
six_or_seven text h = ((decides_code text).0 h).size

-- the field of a code has its size, and tells the code
pub length_field : (i : Issue) (text : List ℕ) → is_code text ≡ true → length text ≤ size_of_code i → length (code_field i text) ≡ size_of_code i
length_field First text h fit = ⊎_elim (λ (e : length text ≡ 6). e) (λ e. absurd (omega arith)) (six_or_seven text h)
length_field Second text h fit =
    ⊎_elim
    (λ (e : length text ≡ 6). ap length (cond-true _ (text ++ (0 ∷ [])) text (eq-eqb _ 6 e)) ∙ (length_push text 0 ∙ ap (λ n. n + 1) e))
    (λ e. ap length (cond-false _ (text ++ (0 ∷ [])) text (ne_eqb (length text) 6 (λ x. omega arith))) ∙ e)
    (six_or_seven text h)

pub text_back : (i : Issue) (text : List ℕ) → is_code text ≡ true → length text ≤ size_of_code i → text_of i (code_field i text) ≡ text
text_back First text h fit = refl
text_back Second text h fit =
    ⊎_elim
    (λ (e : length text ≡ 6).
    ap (text_of Second) (cond-true _ (text ++ (0 ∷ [])) text (eq-eqb _ 6 e))
    ∙ (cond-true (eqb (get_or (text ++ (0 ∷ [])) 6 0) 0) (take 6 (text ++ (0 ∷ []))) (text ++ (0 ∷ [])) (eq-eqb _ 0 (get_or_at text 0 [] 0 6 e))
    ∙ take_at text (0 ∷ []) 6 e))
    (λ e.
    ap (text_of Second) (cond-false _ (text ++ (0 ∷ [])) text (ne_eqb (length text) 6 (λ x. omega arith)))
    ∙ cond-false (eqb (get_or text 6 0) 0) (take 6 text) text (ne_eqb _ 0 (seventh text h e)))
    (six_or_seven text h)

pub length_fours : (f : ℕ → ℕ) (n : ℕ) → length (fours f n) ≡ 4 * n
length_fours f zero = refl
length_fours f (suc n) = let e = length_fours f n in let a = length-append (fours f n) (four (f n)) in omega arith

pub fours_at : (f : ℕ → ℕ) (n i j : ℕ) → i < n → j < 4 → get_or (fours f n) (4 * i + j) 0 ≡ get_or (four (f i)) j 0
fours_at f zero i j lt small = absurd (omega arith)
fours_at f (suc n) i j lt small =
    let size = length_fours f n in
    ⊎_elim
    (λ (l : i < n). get_or_append_left (fours f n) (four (f n)) 0 (4 * i + j) (omega arith) ∙ fours_at f n i j l small)
    (λ l.
    let s : i ≡ n = omega arith in
    get_or-append_right (fours f n) (four (f n)) (4 * n) (4 * i + j) 0 size (omega arith)
    ∙ (let e : 4 * i + j - 4 * n ≡ j = omega arith in ap (λ x. get_or (four (f n)) x 0) e ∙ ap (λ x. get_or (four (f x)) j 0) (sym s)))
    (cases_lt i n)

pub four_digits : (x : ℕ) → x < 2 ^ 32 → x % 256 + x / 256 % 256 * 256 + x / 65536 % 256 * 65536 + x / 16777216 % 256 * 16777216 ≡ x
four_digits x h =
    let p = div-div-eq-div-mul x 256 256 in
    let q = div-div-eq-div-mul x 65536 256 in
    omega arith

module _ {W : Type 0} (g : Ghosts W) (i : Issue) (m : Model W) (v : Valid g i m) where
  abbrev S : List ℕ
  S = sheet_of g i m

  abbrev cs : List ℕ
  cs = flat_map (code_field i) m.codes

  abbrev ls : List ℕ
  ls = flat_map (link_bytes g) m.links

  pub issue_seen : issue_in (sheet_of g i m) ≡ i
  issue_seen = from i
    where
      from : (j : Issue) → issue_in (sheet_of g j m) ≡ j
      from First = refl
      from Second = refl

  pub links_seen : links_in (sheet_of g i m) ≡ length m.links
  links_seen = let h = v.short in omega arith

  all_sized : (texts : List (List ℕ)) → AllByRecursion (λ text. is_code text ≡ true) texts → AllByRecursion (λ text. length text ≤ size_of_code i) texts → AllByRecursion (λ text. length (code_field i text) ≡ size_of_code i) texts
  all_sized [] a b = tt
  all_sized (t ∷ ts) a b = (length_field i t a.0 b.0, all_sized ts a.1 b.1)

  links_sized : (xs : List (Link W)) → AllByRecursion (λ l. length (link_bytes g l) ≡ link_size g) xs
  links_sized [] = tt
  links_sized (l ∷ xs) = (let e = length_fours (g.nth (g.value l.weight)) g.PARTS in omega arith, links_sized xs)

  length_codes : length cs ≡ length m.codes * size_of_code i
  length_codes = length_joined (code_field i) (size_of_code i) m.codes (all_sized m.codes v.codes v.fit)

  place_seen : (k : ℕ) → code_place S k ≡ 9 + k * size_of_code i
  place_seen k = ap (λ j. 9 + k * size_of_code j) issue_seen

  pub link_place_seen : (k : ℕ) → link_place g (sheet_of g i m) k ≡ 9 + (length m.codes * size_of_code i + k * link_size g)
  link_place_seen k = let e = place_seen (length m.codes) in omega arith

  pub length_seen : length (sheet_of g i m) ≡ 9 + (length m.codes * size_of_code i + length m.links * link_size g)
  length_seen =
      let a = length-append cs ls in
      let b = length_codes in
      let c = length_joined (link_bytes g) (link_size g) m.links (links_sized m.links) in
      omega arith

  pub code_seen : (k : ℕ) → k < length m.codes → text_in (sheet_of g i m) k ≡ get_or m.codes k []
  code_seen k lt =
      let s = size_of_code i in
      let c = get_or m.codes k [] in
      let piece : bytes_at S (9 + k * s) s ≡ code_field i c =
      ap (take s) (sym (drop-drop (k * s) 9 S)) ∙ piece_at (code_field i) s m.codes ls k [] (all_sized m.codes v.codes v.fit) lt in
      ap (λ j. text_of j (bytes_at S (9 + k * size_of_code j) (size_of_code j))) issue_seen
      ∙ (ap (text_of i) piece ∙ text_back i c (All-get_or (λ t. is_code t ≡ true) m.codes k [] lt v.codes) (All-get_or (λ t. length t ≤ size_of_code i) m.codes k [] lt v.fit))

  pub texts_seen : (k : ℕ) → k ≤ length m.codes → texts_in (sheet_of g i m) k ≡ take k m.codes
  texts_seen zero h = refl
  texts_seen (suc k) h =
      ap₂ (λ a b. a ++ (b ∷ [])) (texts_seen k (omega arith)) (code_seen k (omega arith))
      ∙ (sym (take_more m.codes k [] (omega arith)) ∙ ap (λ n. take n m.codes) (add-one k))

  pub link_seen : (k : ℕ) (d : Link W) → k < length m.links → bytes_at (sheet_of g i m) (link_place g (sheet_of g i m) k) (link_size g) ≡ link_bytes g (get_or m.links k d)
  link_seen k d lt =
      let s = link_size g in
      let n = length m.codes * size_of_code i in
      ap (λ p. bytes_at S p s) (link_place_seen k)
      ∙ (ap (take s) (sym (drop-drop (n + k * s) 9 S))
      ∙ (ap (take s) (sym (drop-drop (k * s) n (cs ++ ls)))
      ∙ (ap (λ ys. take s (drop (k * s) ys)) (drop_at cs ls n length_codes ∙ sym (append-nil ls))
      ∙ piece_at (link_bytes g) s m.links [] k d (links_sized m.links) lt)))
