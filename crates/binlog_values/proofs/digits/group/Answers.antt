use Rattle.std.proofs.Common.{sym, arith}
use Rattle.binlog_wire.specs.Fields.{IsBytes}
use Rattle.binlog_values.specs.DecimalLaws.{group_is}
use Rattle.binlog_values.proofs.digits.group.Goals as goal

pub returns : goal.returns
returns c =
    let fits : IsBytes c.args.bytes.now = λ i. omega (arith, c.type_inv.bytes i) in
    rw (c.adjusted.ensures, c.pow_256.ensures.power, c.stored_group-stored.ensures) (sym (group_is c.args.bytes.now c.args.at c.args.len fits c.requires.low c.requires.room))
