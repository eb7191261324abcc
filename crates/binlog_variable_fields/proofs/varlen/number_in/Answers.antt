use Rattle.std.proofs.Common.{arith}
use Rattle.binlog_variable_fields.specs.Laws.VarlenReading.{number_of_word}
use Rattle.binlog_variable_fields.proofs.varlen.number_in.Goals as goal

pub returns-in_default-2 : goal.returns-in_default-2
returns-in_default-2 c =
    rw c.read_u64-in_default-2.ensures
    (number_of_word c.args.width c.args.bytes.now (λ i. omega (arith, c.type_inv.bytes i)) (omega (arith, c.if-bytes-lt8.false)) c.requires.some (omega (arith, c.requires.most, c.in_default)))
