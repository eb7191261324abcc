use Rattle.std.proofs.Common.{arith}
use Rattle.binlog_wire.specs.Fields.{IsBytes}
use Rattle.binlog_values.proofs.Loads.{little_loaded, little_small}
use Rattle.binlog_values.proofs.content.little_number.Goals as goal

pub returns-clause-small : goal.returns-clause-small
returns-clause-small c =
    let s = c.args.bytes.now in
    let fits : IsBytes s = λ i. omega (arith, c.type_inv.bytes i) in
    rw (little_loaded c.args.len c.read_u64.result s fits c.requires.high c.read_u64.ensures) (little_small c.args.len s fits)
