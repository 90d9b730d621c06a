-- The calls by which the plan of a right sheet is made are never refused.
use Rattle.std.proofs.Common.{◌≡◌, ℕ, ◌+◌, ◌<◌, ◌≤◌, true, false, not, List, [], ◌∷◌, ◌++◌, map, length, get_or, take, None, Ok, Err, Option, Result, IsOk, sym, refl, ap, ◌∙◌, subst, arith}
use Rattle.std.proofs.lemmas.List.{length_push, length-map, length-take-le, get_or-map, take-map, map_more}
use Rattle.std.proofs.lemmas.Bool.{lt-ltb, ne_eqb, le-leb, and_from}
use Rattle.refusals.specs.declared.Refusal.{Refusal}
use Rattle.refusals.specs.declared.Refusal.TheVariants.{NotACode, CodeTaken, Full, NoSuchUnit, SelfLink, NoWeight, OverLimit, NoSuchLink, BadMark}
use Rattle.weights.specs.declared.weight.Weight.{Ghosts}
use Rattle.codes.specs.Code.{is_code}
use Rattle.plans.specs.declared.plan.Link.{Link}
use Rattle.plans.specs.declared.plan.Plan.{Plan}
use Rattle.plans.specs.declared.plan.Unit.{Unit as Record}
use Rattle.plans.specs.Calls.{Called, accepted, reply_of, after_of, enter_verdict, link_verdict, mark_verdict}
use Rattle.plans.specs.Model.{Model, model_of, code_of, amount_of, total_of, borne_by_other, changed, entered, linked, marked}
use Rattle.plans.specs.Sound.{Joins}
use Rattle.plans.proofs.Verdicts.{passes}
use Rattle.readers.specs.Loads.{Apart}

-- what is accepted is not refused, and does what the call says
pub not_refused : {X : Type 0} (v : Option Refusal) (x : X) (e : Refusal) → v ≡ None → Err e ≡ reply_of v x → ⊥
not_refused {X} v x e a h =
    let q : ◌≡◌ {A = Result X Refusal} (Err e) (Ok x) = h ∙ ap (λ o. reply_of o x) a in
    let z : ◌≡◌ {A = ℕ} 0 1 = cc in omega arith

module _ {W X : Type 0} {g : Ghosts W} (v : Option Refusal) (x : X) (next : Model W) (p q : Plan W g) (r : Result X Refusal) (a : v ≡ None) (h : Called v x next p r q) where
  pub goes : IsOk r
  goes = subst IsOk (sym (h.reply ∙ ap (λ o. reply_of o x) a)) refl

  pub does : model_of q ≡ next
  does = h.model ∙ ap (λ o. after_of o next (model_of p)) a

  pub answers : (y : X) → r ≡ Ok y → y ≡ x
  answers y is = let e : ◌≡◌ {A = Result X Refusal} (Ok y) (Ok x) = sym is ∙ (h.reply ∙ ap (λ o. reply_of o x) a) in cc

-- a code of its own
pub enter_fine : {W : Type 0} (m : Model W) (text : List ℕ) (earlier : List (List ℕ)) (k : ℕ) → m.codes ≡ earlier → length earlier ≡ k → k < 64
    → is_code text ≡ true → borne_by_other k text earlier ≡ false → enter_verdict m text ≡ accepted
enter_fine m text earlier k c n few code free =
    let size : length m.codes ≡ k = ap length c ∙ n in
    let here : borne_by_other (length m.codes) text m.codes ≡ false = ap (λ j. borne_by_other j text m.codes) size ∙ (ap (borne_by_other k text) c ∙ free) in
    passes NotACode _ code ∙ (passes CodeTaken _ (ap not here) ∙ passes Full accepted (lt-ltb (length m.codes) 64 (omega arith)))

module _ {W : Type 0} (g : Ghosts W) (m : Model W) (l : Link W) where
  pub link_fine : Joins g (length m.codes) l → length m.links < 512 → total_of g m.links + amount_of g l.weight ≤ 1000000 → link_verdict m g l.first l.second l.weight ≡ accepted
  link_fine j room limit =
      passes NoSuchUnit _ (and_from _ _ (lt-ltb l.first (length m.codes) j.first) (lt-ltb l.second (length m.codes) j.second))
      ∙ (passes SelfLink _ (ap not (ne_eqb l.first l.second j.apart))
      ∙ (passes NoWeight _ (ap not (ne_eqb (amount_of g l.weight) 0 (λ e. let h = j.weighty in omega arith)))
      ∙ (passes Full _ (lt-ltb (length m.links) 512 room) ∙ passes OverLimit accepted (le-leb _ _ limit))))

  -- the same link in service
  abbrev pub served : Link W
  served = record { first = l.first; second = l.second; in_service = true; weight = l.weight }

  pub mark_fine : mark_verdict (linked served m) (length m.links) 0 ≡ accepted
  mark_fine = passes NoSuchLink _ (lt-ltb (length m.links) (length (m.links ++ (served ∷ []))) (let s = length_push m.links served in omega arith)) ∙ passes BadMark accepted refl

  pub in_service : l.in_service ≡ true → linked served m ≡ linked l m
  in_service e = ap (λ b. linked (record { first = l.first; second = l.second; in_service = b; weight = l.weight }) m) (sym e)

  pub out_of_service : l.in_service ≡ false → marked (length m.links) false (linked served m) ≡ linked l m
  out_of_service e =
      ap (λ ls. record { codes = m.codes; links = ls }) (last m.links)
      ∙ ap (λ b. linked (record { first = l.first; second = l.second; in_service = b; weight = l.weight }) m) (sym e)
    where
      unmarked : Link W → Link W
      unmarked x = record { first = x.first; second = x.second; in_service = false; weight = x.weight }

      last : (ls : List (Link W)) → changed (length ls) unmarked (ls ++ (served ∷ [])) ≡ ls ++ (unmarked served ∷ [])
      last [] = refl
      last (x ∷ ls) = ap (λ ys. x ∷ ys) (last ls)

-- one unit after the other
module _ {W : Type 0} (m : Model W) (us : List Record) (k : ℕ) (d : Record) (text : List ℕ) (so_far : m ≡ record { codes = map code_of (take k us); links = [] }) (lt : k < length us) (is : text ≡ code_of (get_or us k d)) where
  pub unit_fine : length us ≤ 64 → Apart (map code_of us) → is_code text ≡ true → enter_verdict m text ≡ accepted
  unit_fine few apart code =
      let free : borne_by_other k text (map code_of (take k us)) ≡ false =
      ap (λ t. borne_by_other k t (map code_of (take k us))) (is ∙ sym (get_or-map code_of us k d [] lt))
      ∙ (ap (borne_by_other k (get_or (map code_of us) k [])) (sym (take-map code_of k us)) ∙ apart k (subst (λ n. k < n) (sym (length-map us code_of)) lt)) in
      enter_fine m text (map code_of (take k us)) k (ap (λ x. x.codes) so_far) (length-map (take k us) code_of ∙ length-take-le k us (omega arith)) (omega arith) code free

  pub unit_more : entered text m ≡ record { codes = map code_of (take (k + 1) us); links = [] }
  unit_more =
      ap (λ x. entered text x) so_far
      ∙ ap (λ cs. record { codes = cs; links = [] }) (ap (λ t. map code_of (take k us) ++ (t ∷ [])) is ∙ sym (map_more code_of us k d lt))
