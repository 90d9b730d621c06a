-- Links that a table of marks puts in service: link by link, with their own marks, and with one link out.
use Rattle.std.proofs.Common.{◌≡◌, ℕ, zero, suc, ◌+◌, ◌<◌, ◌≤◌, Bool, true, false, cond, eqb, List, [], ◌∷◌, ◌++◌, map, length, get_or, take, drop, set, sym, refl, ap, ◌∙◌, subst, ap₂, ⊎_elim, add-zero, zero-add, arith}
use Rattle.std.proofs.lemmas.List.{get_or-set_same, get_or-set_other, get_or_past, length-set, length-take-le, take_more, take-append-drop}
use Rattle.std.proofs.lemmas.Bool.{cases_lt, eq-eqb, ne_eqb}
use Rattle.weights.specs.declared.weight.Weight.{Ghosts}
use Rattle.cuts.specs.Kinds.{kind_of}
use Rattle.cuts.specs.Links.{total, Ends, Sound}
use Rattle.cuts.proofs.Facts.{sound_within}
use Rattle.cuts.proofs.Fills.{sound_front}
use Rattle.plans.specs.declared.plan.Link.{Link}
use Rattle.plans.specs.Divided.{valued}
use Rattle.plans.specs.Marks.{mark_of, with_mark, Shows}
use Rattle.plans.specs.Model.{amount_of, total_of, changed}
use Rattle.plans.specs.Sound.{Joins}
use Rattle.std.specs.List.{AllWithin}
use Rattle.tables.specs.Meaning.{Holds}
use Rattle.tables.proofs.Fillings.{holds_out}
use Rattle.fills.specs.Served.{served_from, served}

one_mark : (b : Bool) → eqb (cond b 1 0) 1 ≡ b
one_mark true = refl
one_mark false = refl

module _ {W : Type 0} (g : Ghosts W) where
  pub served_append : (marks : List ℕ) (i : ℕ) (xs ys : List (Link W)) → served_from g marks i (xs ++ ys) ≡ served_from g marks i xs ++ served_from g marks (i + length xs) ys
  served_append marks i [] ys = ap (λ k. served_from g marks k ys) (sym (add-zero i))
  served_append marks i (x ∷ xs) ys =
      ap (λ r. valued g (with_mark x (eqb (get_or marks i 0) 1)) ∷ r) (served_append marks (suc i) xs ys ∙ ap (λ k. served_from g marks (suc i) xs ++ served_from g marks k ys) (let e : suc i + length xs ≡ i + suc (length xs) = omega arith in e))

  -- the marks from number i on are those of the links
  abbrev Own : List ℕ → ℕ → List (Link W) → Type 0
  Own marks i ls = (j : ℕ) (d : Link W) → j < length ls → get_or marks (i + j) 0 ≡ mark_of (get_or ls j d)

  own_tail : (marks : List ℕ) (i : ℕ) (l : Link W) (ls : List (Link W)) → Own marks i (l ∷ ls) → Own marks (suc i) ls
  own_tail marks i l ls own j d lt = let e : suc i + j ≡ i + suc j = omega arith in ap (λ k. get_or marks k 0) e ∙ own (suc j) d (omega arith)

  own_head : (marks : List ℕ) (i : ℕ) (l : Link W) (ls : List (Link W)) → Own marks i (l ∷ ls) → with_mark l (eqb (get_or marks i 0) 1) ≡ l
  own_head marks i l ls own = ap (λ b. with_mark l b) (ap (λ k. eqb k 1) (ap (λ k. get_or marks k 0) (sym (add-zero i)) ∙ own 0 l (omega arith)) ∙ one_mark l.in_service)

  own_served : (marks : List ℕ) (i : ℕ) (ls : List (Link W)) → Own marks i ls → served_from g marks i ls ≡ map (valued g) ls
  own_served marks i [] own = refl
  own_served marks i (l ∷ ls) own = ap₂ (λ h t. valued g h ∷ t) (own_head marks i l ls own) (own_served marks (suc i) ls (own_tail marks i l ls own))

  -- a plan's own marks leave each link as it is
  pub served_own : (marks : List ℕ) (ls : List (Link W)) → Shows marks ls → served g marks ls ≡ map (valued g) ls
  served_own marks ls shows = own_served marks 0 ls (λ j d lt. ap (λ k. get_or marks k 0) (zero-add j) ∙ shows j d lt)

  -- a mark before the links does not count
  set_before : (marks : List ℕ) (k i : ℕ) (ls : List (Link W)) → k < i → served_from g (set marks k 0) i ls ≡ served_from g marks i ls
  set_before marks k i [] lt = refl
  set_before marks k i (l ∷ ls) lt = ap₂ (λ b t. valued g (with_mark l (eqb b 1)) ∷ t) (get_or-set_other marks k i 0 0 (λ e. omega arith)) (set_before marks k (suc i) ls (omega arith))

  set_here : (marks : List ℕ) (i : ℕ) → get_or (set marks i 0) i 0 ≡ 0
  set_here marks i = ⊎_elim (λ (h : i < length marks). get_or-set_same marks i 0 0 h) (λ (h : length marks ≤ i). get_or_past (set marks i 0) i 0 (simp length-set h)) (cases_lt i (length marks))

  out_served : (marks : List ℕ) (i k : ℕ) (ls : List (Link W)) → Own marks i ls → served_from g (set marks (i + k) 0) i ls ≡ map (valued g) (changed k (λ l. with_mark l false) ls)
  out_served marks i k [] own = refl
  out_served marks i zero (l ∷ ls) own =
      ap (λ m. served_from g (set marks m 0) i (l ∷ ls)) (add-zero i)
      ∙ ap₂ (λ b t. valued g (with_mark l (eqb b 1)) ∷ t) (set_here marks i) (set_before marks i (suc i) ls (omega arith) ∙ own_served marks (suc i) ls (own_tail marks i l ls own))
  out_served marks i (suc k) (l ∷ ls) own =
      let e : i + suc k ≡ suc i + k = omega arith in
      ap₂ (λ h t. valued g h ∷ t)
      (ap (λ b. with_mark l (eqb b 1)) (get_or-set_other marks (i + suc k) i 0 0 (λ x. omega arith)) ∙ own_head marks i l ls own)
      (ap (λ m. served_from g (set marks m 0) (suc i) ls) e ∙ out_served marks (suc i) k ls (own_tail marks i l ls own))

  -- with one mark put out, that link is out and the others are as they are
  pub served_out : (marks : List ℕ) (k : ℕ) (ls : List (Link W)) → Shows marks ls → served g (set marks k 0) ls ≡ map (valued g) (changed k (λ l. with_mark l false) ls)
  served_out marks k ls shows = ap (λ m. served_from g (set marks m 0) 0 ls) (sym (zero-add k)) ∙ out_served marks 0 k ls (λ j d lt. ap (λ i. get_or marks i 0) (zero-add j) ∙ shows j d lt)

  served_total : (marks : List ℕ) (i : ℕ) (ls : List (Link W)) → total (kind_of g) (served_from g marks i ls) ≡ total_of g ls
  unfolding total
  served_total marks i [] = refl
  served_total marks i (l ∷ ls) = ap (λ t. amount_of g l.weight + t) (served_total marks (suc i) ls)

  served_ends : (marks : List ℕ) (n i : ℕ) (ls : List (Link W)) → AllWithin (Joins g n) ls 0 (length ls) → Ends n (served_from g marks i ls)
  unfolding Ends
  served_ends marks n i [] joins = tt
  served_ends marks n i (l ∷ ls) joins =
      let here = joins 0 l (omega arith) (omega arith) in
      (here.first, here.second, served_ends marks n (suc i) ls (λ k d low lt. joins (suc k) d (omega arith) (omega arith)))

  -- whatever the marks, no sum over the links is refused
  pub served_sound : (marks : List ℕ) (n : ℕ) (ls : List (Link W)) → AllWithin (Joins g n) ls 0 (length ls) → total_of g ls ≤ 1000000 → Sound (kind_of g) n (served g marks ls)
  served_sound marks n ls joins light = sound_within (kind_of g) n (served g marks ls) (served_ends marks n 0 ls joins) (let e = served_total marks 0 ls in omega arith)

  -- one link more
  pub served_more : (marks : List ℕ) (ls : List (Link W)) (i : ℕ) (d : Link W) → i < length ls → served g marks (take (i + 1) ls) ≡ served g marks (take i ls) ++ (valued g (with_mark (get_or ls i d) (eqb (get_or marks i 0) 1)) ∷ [])
  served_more marks ls i d lt =
      ap (served g marks) (take_more ls i d lt) ∙ served_append marks 0 (take i ls) (get_or ls i d ∷ [])
      ∙ ap (λ k. served g marks (take i ls) ++ (valued g (with_mark (get_or ls i d) (eqb (get_or marks k 0) 1)) ∷ [])) (zero-add (length (take i ls)) ∙ length-take-le i ls (omega arith))

  -- no sum over the first links is refused
  pub front_sound : (marks : List ℕ) (n : ℕ) (ls : List (Link W)) (i : ℕ) → AllWithin (Joins g n) ls 0 (length ls) → total_of g ls ≤ 1000000 → Sound (kind_of g) n (served g marks (take i ls))
  front_sound marks n ls i joins light =
      let whole = served_sound marks n ls joins light in
      let parts = ap (served g marks) (sym (take-append-drop i ls)) ∙ served_append marks 0 (take i ls) (drop i ls) in
      sound_front (kind_of g) n (served g marks (take i ls)) (served_from g marks (0 + length (take i ls)) (drop i ls)) (subst (Sound (kind_of g) n) parts whole)

  -- a link whose mark is 1 closes the first links, in service
  pub served_on : (marks : List ℕ) (ls : List (Link W)) (i : ℕ) (l : Link W) → i < length ls → l ≡ get_or ls i l → get_or marks i 0 ≡ 1
      → served g marks (take (i + 1) ls) ≡ served g marks (take i ls) ++ (record { first = l.first; second = l.second; in_service = true; weight = g.value l.weight } ∷ [])
  served_on marks ls i l lt is on = served_more marks ls i l lt ∙ ap₂ (λ x b. served g marks (take i ls) ++ (valued g (with_mark x b) ∷ [])) (sym is) (eq-eqb _ _ on)

  -- a link whose mark is not 1 changes no entry of the table
  pub holds_skip : (n : ℕ) (marks : List ℕ) (ls : List (Link W)) (i : ℕ) (table : List W) → i < length ls → (get_or marks i 0 ≡ 1 → ⊥) → Holds g n (served g marks (take i ls)) [] table → Holds g n (served g marks (take (i + 1) ls)) [] table
  holds_skip n marks [] i table lt off h = absurd (omega arith)
  holds_skip n marks (x ∷ xs) i table lt off h =
      subst (λ js. Holds g n js [] table) (sym (served_more marks (x ∷ xs) i x lt)) (holds_out g n (served g marks (take i (x ∷ xs))) (valued g (with_mark (get_or (x ∷ xs) i x) (eqb (get_or marks i 0) 1))) table (ne_eqb _ _ off) h)
