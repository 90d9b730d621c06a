-- A plan whose codes fit an issue is within the rules of a sheet.
use Rattle.std.proofs.Common.{◌≡◌, ◌<◌, ◌≤◌, true, List, [], ◌∷◌, map, length, take, arith}
use Rattle.std.specs.List.{AllByRecursion}
use Rattle.std.proofs.ByRecursion.{all_from_every}
use Rattle.std.proofs.lemmas.List.{get_or-take}
use Rattle.weights.specs.declared.weight.Weight.{Ghosts}
use Rattle.codes.specs.Code.{is_code}
use Rattle.plans.specs.declared.plan.Plan.{Plan}
use Rattle.plans.specs.declared.plan.Unit.{Unit}
use Rattle.plans.specs.Model.{model_of, code_of}
use Rattle.plans.specs.Sound.{Joins}
use Rattle.plans.proofs.Linking.{unit_size, link_size_lem}
use Rattle.sheets.specs.declared.issue.Issue.{Issue}
use Rattle.sheets.specs.Format.{size_of_code, Valid}

-- a unit bears a code, by its own type
pub all_codes : (us : List Unit) → AllByRecursion (λ text. is_code text ≡ true) (map code_of us)
all_codes [] = tt
all_codes (u ∷ us) = (u.code.code, all_codes us)

module _ {W : Type 0} {g : Ghosts W} (p : Plan W g) where
  -- the links of a plan join its units
  pub all_join : AllByRecursion (Joins g (length (model_of p).codes)) (model_of p).links
  all_join =
      all_from_every (Joins g (length (model_of p).codes)) (model_of p).links (λ k d low high.
      let size = link_size_lem p in
      let here : k < p.link_count = omega arith in
      rw (unit_size p, get_or-take p.link_count p.links.now k d here) (p.sound.joins k d low here))

  pub within : (issue : Issue) → AllByRecursion (λ text. length text ≤ size_of_code issue) (model_of p).codes → Valid g issue (model_of p)
  within issue fit =
      let units = unit_size p in
      let links = link_size_lem p in
      let few = p.sound.few in
      let short = p.sound.short in
      let counted = p.sound.counted in
      let limited = p.sound.limited in
      record {
        few = omega arith;
        short = omega arith;
        codes = all_codes (take p.unit_count p.units);
        fit = fit;
        distinct = p.sound.distinct;
        joins = all_join;
        limited = omega arith;
      }
