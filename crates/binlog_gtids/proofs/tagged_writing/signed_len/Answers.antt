use Rattle.std.proofs.Common.{◌*◌, arith}
use Rattle.std.proofs.lemmas.List.{length-append}
use Rattle.binlog_variable_fields.specs.Varlen.{varlen_written}
use Rattle.binlog_variable_fields.specs.Laws.VarlenWriting.{varlen_size_nine}
use Rattle.binlog_gtids.proofs.tagged_writing.signed_len.Goals as goal

pub returns-else-number-clause-count : goal.returns-else-number-clause-count
returns-else-number-clause-count c =
    let n = 2 * c.args.number in
    omega (arith, length-append (varlen_written c.args.id) (varlen_written n), varlen_size_nine n (omega arith), c.varlen_uint_size.ensures.count)
