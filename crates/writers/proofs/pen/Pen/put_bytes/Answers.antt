use Rattle.std.proofs.Common.{rules, arith}
use Rattle.writers.proofs.Puts.{put_part}
use Rattle.writers.proofs.pen.Pen.put_bytes.Goals as goal

pub returns : goal.returns
returns c = record {
  lent = search rules;
  put = put_part c.args.self.now.out.now c.args.bytes.now c.copy_from_slice.new.self c.args.self.now.at c.copy_from_slice.ensures.after (omega arith) (search rules);
}
