use Rattle.std.proofs.Common.{◌≡◌, ◌-◌, ◌<◌, false, [], ◌∷◌, ◌++◌, get_or, set, sym, subst, arith}
use Rattle.cuts.specs.Groups.{stands}
use Rattle.tables.proofs.Trackings.{standing_more, names_more, left_more, renamed_part}
use Rattle.tables.proofs.groups.Groups.join.Goals as goal

pub returns-clause-tracks : goal.returns-clause-tracks
returns-clause-tracks c = λ n es e joins low high below is-low is-high tracks.
    let l = rw (sym is-low) at low in
    let h = rw (sym is-high) at high in
    let less : e.low < e.high = omega arith in
    let units = tracks.units in
    record {
      units = units;
      left = left_more n es e joins l h less c.args.self.now.left tracks.left c.requires.left;
      standing = λ u lt. subst (λ k. get_or (set c.args.self.now.standing k false) u false ≡ stands n (es ++ (e ∷ [])) u) is-high (standing_more n es e joins l h less c.args.self.now.standing tracks.standing u lt);
      names = names_more n es e joins l h less c.args.self.now.names _ tracks.names (λ x lt. renamed_part c.args.self.now.names c.rename.new.names _ (c.args.self.now.units - 0) _ _ _ _ is-low is-high (omega arith) c.rename.ensures.length c.rename.ensures.renamed x (omega arith));
    }
