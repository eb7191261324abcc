use Rattle.std.proofs.Common.{◌++◌, replicate, arith}
use Rattle.binary_json_writing.proofs.Appending.{filled_more}
use Rattle.binary_json_writing.proofs.entry.push_filling.Goals as goal

pub filled-preserved : goal.filled-preserved
filled-preserved c =
    filled_more c.filled.out.items c.push.new.self.items (c.args.out.now.items ++ replicate c.args.count c.args.filling) c.args.filling c.args.count c.filled._index (omega arith) c.filled.invariant c.in_ok-push.ensures.items
