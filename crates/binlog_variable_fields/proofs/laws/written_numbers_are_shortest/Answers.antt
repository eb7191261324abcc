use Rattle.binlog_variable_fields.specs.Laws.LenEnc.{lenenc_shortest}
use Rattle.binlog_variable_fields.specs.Laws.VarlenWriting.{varlen_shortest}
use Rattle.binlog_variable_fields.proofs.laws.written_numbers_are_shortest.Goals as goal

pub returns-clause-lenenc : goal.returns-clause-lenenc
returns-clause-lenenc c = lenenc_shortest

pub returns-clause-varlen : goal.returns-clause-varlen
returns-clause-varlen c = varlen_shortest
