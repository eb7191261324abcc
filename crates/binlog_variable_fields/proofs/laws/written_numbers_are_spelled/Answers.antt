use Rattle.binlog_variable_fields.specs.Laws.LenEnc.{lenenc_writes}
use Rattle.binlog_variable_fields.specs.Laws.VarlenWriting.{varlen_writes}
use Rattle.binlog_variable_fields.proofs.laws.written_numbers_are_spelled.Goals as goal

pub returns-clause-lenenc : goal.returns-clause-lenenc
returns-clause-lenenc c = lenenc_writes

pub returns-clause-varlen : goal.returns-clause-varlen
returns-clause-varlen c = varlen_writes
