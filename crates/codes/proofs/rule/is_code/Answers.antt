use Rattle.std.proofs.Common.{rules}
use Rattle.codes.proofs.Decided.{decides_code}
use Rattle.codes.proofs.rule.is_code.Goals as goal

pub returns-then-matches : goal.returns-then-matches
returns-then-matches c = let h = decides_code c.args.text.now in search rules
