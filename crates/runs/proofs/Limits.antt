-- Plans within their limits, over which no sum is refused; every edit leaves them so.
use Rattle.std.proofs.Common.{◌≡◌, ℕ, ◌+◌, ◌<◌, ◌≤◌, Bool, true, List, [], ◌∷◌, ◌++◌, length, sym, ap, ◌∙◌, subst, arith, length-set}
use Rattle.std.specs.List.{remove, AllByRecursion}
use Rattle.std.proofs.ByRecursion.{All-append, All-push, All-weaker}
use Rattle.std.proofs.lemmas.List.{length_push}
use Rattle.std.proofs.lemmas.Bool.Decides.{nat_tests}
use Rattle.weights.specs.declared.weight.Weight.{Ghosts}
use Rattle.plans.specs.declared.plan.Link.{Link}
use Rattle.plans.specs.Calls.{accepted, link_verdict, strike_verdict, reweigh_verdict, mark_verdict, most_total}
use Rattle.plans.specs.Model.{Model, amount_of, total_of, changed, entered, recoded, linked, struck, reweighed, marked}
use Rattle.plans.specs.Sound.{Joins}
use Rattle.plans.proofs.Totals.{total_append}
use Rattle.runs.specs.Steps.{opened}
use Rattle.filings.proofs.Parting.{Parted, parted}
use Rattle.filings.proofs.Staying.{Fairly, fair_links}

-- what holds of the parts of a list
all_front : {X : Type 0} (P : X → Type 0) (xs ys : List X) → AllByRecursion P (xs ++ ys) → AllByRecursion P xs
all_front P [] ys a = tt
all_front P (x ∷ xs) ys a = (a.0, all_front P xs ys a.1)

all_back : {X : Type 0} (P : X → Type 0) (xs ys : List X) → AllByRecursion P (xs ++ ys) → AllByRecursion P ys
all_back P [] ys a = a
all_back P (x ∷ xs) ys a = all_back P xs ys a.1

-- what an accepted call was not refused with
module _ {W : Type 0} (g : Ghosts W) (m : Model W) where
  pub strike_there : (k : ℕ) → strike_verdict m k ≡ accepted → k < length m.links
  strike_there k e = grind (arith, nat_tests)

  pub mark_there : (k b : ℕ) → mark_verdict m k b ≡ accepted → (k < length m.links) × (b < 2)
  mark_there k b e = (grind (arith, nat_tests), grind (arith, nat_tests))

  pub reweigh_there : (k : ℕ) (w : W) → reweigh_verdict m g k w ≡ accepted → (k < length m.links) × (0 < amount_of g w) × (total_of g (remove m.links k) + amount_of g w ≤ most_total)
  reweigh_there k w e = (grind (arith, nat_tests), grind (arith, nat_tests), grind (arith, nat_tests))

  pub link_there : (a b : ℕ) (w : W) → link_verdict m g a b w ≡ accepted → (a < length m.codes) × (b < length m.codes) × (a ≡ b → ⊥) × (0 < amount_of g w) × (total_of g m.links + amount_of g w ≤ most_total)
  link_there a b w e = (grind (arith, nat_tests), grind (arith, nat_tests), grind (arith, nat_tests), grind (arith, nat_tests), grind (arith, nat_tests))

module _ {W : Type 0} (g : Ghosts W) where
  -- the links join units of the plan, and their amounts keep the limit
  pub record Within (m : Model W) : Type 0 where
    pub joins : AllByRecursion (Joins g (length m.codes)) m.links
    pub limited : total_of g m.links ≤ most_total

  pub fair_within : (m : Model W) → Within m → Fairly g m
  fair_within m w = fair_links g m w.joins w.limited

module _ {W : Type 0} (g : Ghosts W) where
  pub opened_within : Within g opened
  opened_within = record { joins = tt; limited = omega arith }

  module _ (m : Model W) (within : Within g m) where
    pub entered_within : (text : List ℕ) → Within g (entered text m)
    entered_within text =
        let n = length_push m.codes text in
        record {
          joins = All-weaker (Joins g (length m.codes)) (Joins g (length (m.codes ++ (text ∷ [])))) (λ l j.
              let a = j.first in
              let b = j.second in
              record { first = omega arith; second = omega arith; apart = j.apart; weighty = j.weighty }) m.links within.joins;
          limited = within.limited;
        }

    pub recoded_within : (k : ℕ) (text : List ℕ) → Within g (recoded k text m)
    recoded_within k text =
        let e = length-set m.codes k text in
        record { joins = subst (λ n. AllByRecursion (Joins g n) m.links) (sym e) within.joins; limited = within.limited }

    pub linked_within : (a b : ℕ) (w : W) → link_verdict m g a b w ≡ accepted → Within g (linked (record { first = a; second = b; in_service = true; weight = w }) m)
    linked_within a b w e =
        let l : Link W = record { first = a; second = b; in_service = true; weight = w } in
        let h = link_there g m a b w e in
        let low = h.4 in
        let t = total_append g m.links (l ∷ []) in
        record {
          joins = All-push (Joins g (length m.codes)) m.links l within.joins (record { first = h.0; second = h.1; apart = h.2; weighty = h.3 });
          limited = omega arith;
        }

    module _ (k : ℕ) (there : k < length m.links) where
      at : Parted m.links k
      at = parted m.links k there

      abbrev Joined : List (Link W) → Type 0
      Joined ls = AllByRecursion (Joins g (length m.codes)) ls

      all_joined : Joined (at.front ++ (at.here ∷ at.back))
      all_joined = subst Joined at.all within.joins

      here_joined : Joins g (length m.codes) at.here
      here_joined = (all_back (Joins g (length m.codes)) at.front (at.here ∷ at.back) all_joined).0

      back_joined : Joined at.back
      back_joined = (all_back (Joins g (length m.codes)) at.front (at.here ∷ at.back) all_joined).1

      front_joined : Joined at.front
      front_joined = all_front (Joins g (length m.codes)) at.front (at.here ∷ at.back) all_joined

      old_total : total_of g m.links ≡ total_of g at.front + (amount_of g at.here.weight + total_of g at.back)
      old_total = ap (total_of g) at.all ∙ total_append g at.front (at.here ∷ at.back)

      less_total : total_of g (remove m.links k) ≡ total_of g at.front + total_of g at.back
      less_total = ap (total_of g) at.less ∙ total_append g at.front at.back

      -- one link is another, of a weight that leaves the amounts within the limit
      changed_within : (f : Link W → Link W) → Joins g (length m.codes) (f at.here) → total_of g (remove m.links k) + amount_of g (f at.here).weight ≤ most_total → Within g (record { codes = m.codes; links = changed k f m.links })
      changed_within f j low =
          let e = total_append g at.front (f at.here ∷ at.back) in
          let l = less_total in
          let n : total_of g (changed k f m.links) ≡ total_of g (at.front ++ (f at.here ∷ at.back)) = ap (total_of g) (at.new f) in
          record {
            joins = subst Joined (sym (at.new f)) (All-append (Joins g (length m.codes)) at.front (f at.here ∷ at.back) front_joined (j, back_joined));
            limited = omega arith;
          }

      pub struck_within : Within g (struck k m)
      struck_within =
          let o = old_total in
          let l = less_total in
          let low = within.limited in
          record {
            joins = subst Joined (sym at.less) (All-append (Joins g (length m.codes)) at.front at.back front_joined back_joined);
            limited = omega arith;
          }

      pub marked_within : (b : Bool) → Within g (marked k b m)
      marked_within b =
          let j = here_joined in
          let o = old_total in
          let l = less_total in
          let low = within.limited in
          changed_within (λ x. record { first = x.first; second = x.second; in_service = b; weight = x.weight }) (record { first = j.first; second = j.second; apart = j.apart; weighty = j.weighty }) (omega arith)

      pub reweighed_within : (w : W) → 0 < amount_of g w → total_of g (remove m.links k) + amount_of g w ≤ most_total → Within g (reweighed k w m)
      reweighed_within w some low =
          let j = here_joined in
          changed_within (λ x. record { first = x.first; second = x.second; in_service = x.in_service; weight = w }) (record { first = j.first; second = j.second; apart = j.apart; weighty = some }) low

      -- a plan with a link has two units
      pub two_units : 2 ≤ length m.codes
      two_units =
          let j = here_joined in
          let a = j.first in
          let b = j.second in
          two at.here.first at.here.second (length m.codes) j.first j.second j.apart
        where
          two : (a b n : ℕ) → a < n → b < n → (a ≡ b → ⊥) → 2 ≤ n
          two a b n p q r = grind (arith, nat_tests)
