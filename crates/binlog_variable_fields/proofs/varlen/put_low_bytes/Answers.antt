use Rattle.std.proofs.Common.{rules, sym, arith}
use Rattle.binlog_wire.specs.Laws.Numbers.{length-little_bytes}
use Rattle.binlog_variable_fields.specs.Laws.VarlenWriting.{take_little_bytes}
use Rattle.binlog_variable_fields.proofs.varlen.put_low_bytes.Goals as goal

pub returns : goal.returns
returns c =
    let low = take_little_bytes c.args.width 8 c.args.number c.requires.few in
    record {
      items = rw (sym low) (search rules);
      len = grind (arith, length-little_bytes c.args.width c.args.number);
      capacity = grind arith;
    }
