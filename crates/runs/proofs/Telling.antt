-- A sheet is that of one plan only.
use Rattle.std.proofs.Common.{◌≡◌, ℕ, zero, suc, ◌+◌, ◌/◌, ◌%◌, ◌^◌, ◌<◌, ◌≤◌, Bool, true, false, cond, eqb, ◌⊎◌, List, [], ◌∷◌, ◌++◌, length, get_or, sym, refl, ap, ◌∙◌, subst, inl, inr, ⊎_elim, arith}
use Rattle.std.specs.List.{flat_map, AllByRecursion}
use Rattle.std.proofs.lemmas.List.{append_assoc, append_cancel_right, append-nil, length_push, get_or_push}
use Rattle.std.proofs.lemmas.Bool.{cond-true, cond-false, eq-eqb, ne_eqb, cases_eq, cases_lt}
use Rattle.weights.specs.declared.weight.Weight.{Ghosts}
use Rattle.weights.specs.Laws.{Exact}
use Rattle.codes.specs.Code.{is_code}
use Rattle.codes.proofs.Decided.{decides_code}
use Rattle.plans.specs.declared.plan.Link.{Link}
use Rattle.plans.specs.Model.{Model}
use Rattle.sheets.specs.declared.issue.Issue.{Issue}
use Rattle.sheets.specs.declared.issue.Issue.TheVariants.{First, Second}
use Rattle.sheets.proofs.Seen.{length_fours}
use Rattle.sheets.specs.Format.{issue_number, size_of_code, code_field, four, fours, bytes_of_head, link_bytes, link_size, Valid}
use Rattle.sheets.specs.Claims.{SheetTold}

module _ {X : Type 0} where
  pub head_same : (x y : X) (xs ys : List X) → x ∷ xs ≡ y ∷ ys → x ≡ y
  head_same x y xs ys e = cc

  pub rest_same : (x y : X) (xs ys : List X) → x ∷ xs ≡ y ∷ ys → xs ≡ ys
  rest_same x y xs ys e = cc

  -- two fronts of one length, and what follows them
  parts_same : (xs ys us vs : List X) → length xs ≡ length ys → xs ++ us ≡ ys ++ vs → (xs ≡ ys) × (us ≡ vs)
  parts_same [] [] us vs n e = (refl, e)
  parts_same [] (y ∷ ys) us vs n e = absurd (omega arith)
  parts_same (x ∷ xs) [] us vs n e = absurd (omega arith)
  parts_same (x ∷ xs) (y ∷ ys) us vs n e =
      let h = head_same x y (xs ++ us) (ys ++ vs) e in
      let r = parts_same xs ys us vs (omega arith) (rest_same x y (xs ++ us) (ys ++ vs) e) in
      let t = r.0 in
      (cc, r.1)

-- fields of one size, each of which tells what it stands for
module _ {X : Type 0} (f : X → List ℕ) (n : ℕ) (P : X → Type 0) (sized : (x : X) → P x → length (f x) ≡ n) (tells-one : (x y : X) → P x → P y → f x ≡ f y → x ≡ y) where
  fields_same : (xs ys : List X) (us vs : List ℕ) → AllByRecursion P xs → AllByRecursion P ys → length xs ≡ length ys → flat_map f xs ++ us ≡ flat_map f ys ++ vs → (xs ≡ ys) × (us ≡ vs)
  fields_same [] [] us vs p q l e = (refl, e)
  fields_same [] (y ∷ ys) us vs p q l e = absurd (omega arith)
  fields_same (x ∷ xs) [] us vs p q l e = absurd (omega arith)
  fields_same (x ∷ xs) (y ∷ ys) us vs p q l e =
      let here = parts_same (f x) (f y) (flat_map f xs ++ us) (flat_map f ys ++ vs) (sized x p.0 ∙ sym (sized y q.0)) (sym (append_assoc (f x) (flat_map f xs) us) ∙ e ∙ append_assoc (f y) (flat_map f ys) vs) in
      let h = tells-one x y p.0 q.0 here.0 in
      let r = fields_same xs ys us vs p.1 q.1 (omega arith) here.1 in
      let t = r.0 in
      (cc, r.1)

-- numbers in two and four bytes

two_same : (a b : ℕ) → a ≤ 512 → b ≤ 512 → a % 256 ≡ b % 256 → a / 256 % 256 ≡ b / 256 % 256 → a ≡ b
two_same a b la lb p q = omega arith

four_same : (a b : ℕ) → a < 4294967296 → b < 4294967296 → a % 256 ≡ b % 256 → a / 256 % 256 ≡ b / 256 % 256 → a / 65536 % 256 ≡ b / 65536 % 256 → a / 16777216 % 256 ≡ b / 16777216 % 256 → a ≡ b
four_same a b la lb p q r s = omega arith

all_both : {X : Type 0} (P Q : X → Type 0) (xs : List X) → AllByRecursion P xs → AllByRecursion Q xs → AllByRecursion (λ x. P x × Q x) xs
all_both P Q [] p q = tt
all_both P Q (x ∷ xs) p q = ((p.0, q.0), all_both P Q xs p.1 q.1)

all_any : {X : Type 0} (xs : List X) → AllByRecursion (λ _. Unit {0}) xs
all_any [] = tt
all_any (x ∷ xs) = (tt, all_any xs)

-- codes

abbrev Fits : Issue → List ℕ → Type 0
Fits issue text = (is_code text ≡ true) × (length text ≤ size_of_code issue)

code_size_cases : (text : List ℕ) → is_code text ≡ true → (length text ≡ 6) ⊎ (length text ≡ 7)
code_size_cases text c = ((decides_code text).0 c).size

code_sized : (issue : Issue) (text : List ℕ) → Fits issue text → length (code_field issue text) ≡ size_of_code issue
code_sized First text p = let l = p.1 in ⊎_elim (λ (e : length text ≡ 6). e) (λ (e : length text ≡ 7). absurd (omega arith)) (code_size_cases text p.0)
code_sized Second text p = ⊎_elim
    (λ (e : length text ≡ 6). ap length (cond-true (eqb (length text) 6) (text ++ (0 ∷ [])) text (eq-eqb (length text) 6 e)) ∙ length_push text 0 ∙ ap (λ n. n + 1) e)
    (λ (e : length text ≡ 7). ap length (cond-false (eqb (length text) 6) (text ++ (0 ∷ [])) text (ne_eqb (length text) 6 (λ z. absurd (omega arith)))) ∙ e) (code_size_cases text p.0)

-- a closed code is not another of seven characters
not_closed : (a b : List ℕ) → length a ≡ 6 → length b ≡ 7 → is_code b ≡ true → a ++ (0 ∷ []) ≡ b → ⊥
not_closed a b na nb c e =
    let later = ((decides_code b).0 c).later 6 (omega arith) (omega arith) in
    let z : get_or b 6 0 ≡ 0 = ap (λ t. get_or t 6 0) (sym e) ∙ get_or_push a 0 0 6 na in
    ⊎_elim (λ (h : (65 ≤ get_or b 6 0) × (get_or b 6 0 ≤ 90)). let l = h.0 in omega arith) (λ (h : (48 ≤ get_or b 6 0) × (get_or b 6 0 ≤ 57)). let l = h.0 in omega arith) later

second_field : (text : List ℕ) → ((length text ≡ 6) × (code_field Second text ≡ text ++ (0 ∷ []))) ⊎ ((length text ≡ 6 → ⊥) × (code_field Second text ≡ text))
second_field text = ⊎_elim
    (λ (e : length text ≡ 6). inl (e, cond-true (eqb (length text) 6) (text ++ (0 ∷ [])) text (eq-eqb (length text) 6 e)))
    (λ (ne : length text ≡ 6 → ⊥). inr (ne, cond-false (eqb (length text) 6) (text ++ (0 ∷ [])) text (ne_eqb (length text) 6 ne))) (cases_eq (length text) 6)

seven : (text : List ℕ) → is_code text ≡ true → (length text ≡ 6 → ⊥) → length text ≡ 7
seven text c ne = ⊎_elim (λ (e : length text ≡ 6). absurd (ne e)) (λ (e : length text ≡ 7). e) (code_size_cases text c)

code_told : (issue : Issue) (a b : List ℕ) → Fits issue a → Fits issue b → code_field issue a ≡ code_field issue b → a ≡ b
code_told First a b p q e = e
code_told Second a b p q e = ⊎_elim
    (λ (x : (length a ≡ 6) × (code_field Second a ≡ a ++ (0 ∷ []))). ⊎_elim
    (λ (y : (length b ≡ 6) × (code_field Second b ≡ b ++ (0 ∷ []))). append_cancel_right a b (0 ∷ []) (sym x.1 ∙ e ∙ y.1))
    (λ (y : (length b ≡ 6 → ⊥) × (code_field Second b ≡ b)). absurd (not_closed a b x.0 (seven b q.0 y.0) q.0 (sym x.1 ∙ e ∙ y.1))) (second_field b))
    (λ (x : (length a ≡ 6 → ⊥) × (code_field Second a ≡ a)). ⊎_elim
    (λ (y : (length b ≡ 6) × (code_field Second b ≡ b ++ (0 ∷ []))). absurd (not_closed b a y.0 (seven a p.0 x.0) p.0 (sym y.1 ∙ sym e ∙ x.1)))
    (λ (y : (length b ≡ 6 → ⊥) × (code_field Second b ≡ b)). sym x.1 ∙ e ∙ y.1) (second_field b)) (second_field a)

-- links

fours_same : (f h : ℕ → ℕ) (n : ℕ) → ((i : ℕ) → f i < 2 ^ 32) → ((i : ℕ) → h i < 2 ^ 32) → fours f n ≡ fours h n → (i : ℕ) → i < n → f i ≡ h i
fours_same f h zero lf lh e i low = absurd (omega arith)
fours_same f h (suc n) lf lh e i low =
    let p = parts_same (fours f n) (fours h n) (four (f n)) (four (h n)) (length_fours f n ∙ sym (length_fours h n)) e in
    ⊎_elim (λ (l : i < n). fours_same f h n lf lh p.0 i l) (λ (l : n ≤ i). let z : i ≡ n = omega arith in subst (λ j. f j ≡ h j) (sym z) (last (f n) (h n) (lf n) (lh n) p.1)) (cases_lt i n)
  where
    last : (a b : ℕ) → a < 2 ^ 32 → b < 2 ^ 32 → four a ≡ four b → a ≡ b
    last a b la lb q =
        let q1 = rest_same (a % 256) (b % 256) _ _ q in
        let q2 = rest_same (a / 256 % 256) (b / 256 % 256) _ _ q1 in
        let q3 = rest_same (a / 65536 % 256) (b / 65536 % 256) _ _ q2 in
        four_same a b la lb (head_same _ _ _ _ q) (head_same _ _ _ _ q1) (head_same _ _ _ _ q2) (head_same _ _ _ _ q3)

mark_same : (b c : Bool) → ◌≡◌ {A = ℕ} (cond b 1 0) (cond c 1 0) → b ≡ c
mark_same true true e = refl
mark_same true false e = absurd (omega arith)
mark_same false true e = absurd (omega arith)
mark_same false false e = refl

issue_same : (i j : Issue) → issue_number i % 256 ≡ issue_number j % 256 → i ≡ j
issue_same First First e = refl
issue_same First Second e = absurd (omega arith)
issue_same Second First e = absurd (omega arith)
issue_same Second Second e = refl

module _ {W : Type 0} (g : Ghosts W) (exact : Exact g.PARTS g.of g.nth) (narrow : (x : W) (i : ℕ) → g.nth (g.value x) i < 2 ^ 32) (told : (x y : W) → g.value x ≡ g.value y → x ≡ y) where
  weight_told : (v w : W) → fours (g.nth (g.value v)) g.PARTS ≡ fours (g.nth (g.value w)) g.PARTS → v ≡ w
  weight_told v w e = told v w (sym (exact.back (g.value v)) ∙ exact.same (g.nth (g.value v)) (g.nth (g.value w)) (fours_same (g.nth (g.value v)) (g.nth (g.value w)) g.PARTS (narrow v) (narrow w) e) ∙ exact.back (g.value w))

  link_told : (k l : Link W) → link_bytes g k ≡ link_bytes g l → k ≡ l
  link_told k l e =
      let e1 = rest_same k.first l.first _ _ e in
      let e2 = rest_same k.second l.second _ _ e1 in
      let e3 = rest_same (cond k.in_service 1 0) (cond l.in_service 1 0) _ _ e2 in
      let a : k.first ≡ l.first = head_same _ _ _ _ e in
      let b : k.second ≡ l.second = head_same _ _ _ _ e1 in
      let c : k.in_service ≡ l.in_service = mark_same k.in_service l.in_service (head_same _ _ _ _ e2) in
      let d : k.weight ≡ l.weight = weight_told k.weight l.weight e3 in
      λ i. record { first = a i; second = b i; in_service = c i; weight = d i }

  link_sized : (l : Link W) → length (link_bytes g l) ≡ link_size g
  link_sized l = let e = length_fours (g.nth (g.value l.weight)) g.PARTS in omega arith

  -- the codes and links of a sheet, in one issue
  unfoldable body : Issue → Model W → List ℕ
  body issue m = flat_map (code_field issue) m.codes ++ flat_map (link_bytes g) m.links

  body_told : (issue : Issue) (m n : Model W) → Valid g issue m → Valid g issue n → length m.codes ≡ length n.codes → length m.links ≡ length n.links → body issue m ≡ body issue n → m ≡ n
  unfolding body
  body_told issue m n p q units links e =
      let c = fields_same (code_field issue) (size_of_code issue) (Fits issue) (code_sized issue) (code_told issue) m.codes n.codes (flat_map (link_bytes g) m.links) (flat_map (link_bytes g) n.links) (all_both _ _ m.codes p.codes p.fit) (all_both _ _ n.codes q.codes q.fit) units e in
      let d = fields_same (link_bytes g) (link_size g) (λ _. Unit {0}) (λ l _. link_sized l) (λ k l _ _. link_told k l) m.links n.links [] [] (all_any m.links) (all_any n.links) links (append-nil (flat_map (link_bytes g) m.links) ∙ c.1 ∙ sym (append-nil (flat_map (link_bytes g) n.links))) in
      let codes = c.0 in
      let rest = d.0 in
      λ i. record { codes = codes i; links = rest i }

  pub sheet_told : SheetTold g
  unfolding body
  sheet_told i j m n p q e =
      let ps = parts_same (bytes_of_head g i (length m.codes) (length m.links)) (bytes_of_head g j (length n.codes) (length n.links)) (body i m) (body j n) refl e in
      let head = ps.0 in
      let issue : i ≡ j = issue_same i j (ap (λ t. get_or t 3 0) head) in
      let units : length m.codes ≡ length n.codes = ap (λ t. get_or t 6 0) head in
      let links : length m.links ≡ length n.links = two_same (length m.links) (length n.links) p.short q.short (ap (λ t. get_or t 7 0) head) (ap (λ t. get_or t 8 0) head) in
      (issue, body_told i m n p (subst (λ k. Valid g k n) (sym issue) q) units links (ps.1 ∙ ap (λ k. body k n) (sym issue)))
