use Rattle.binlog_variable_fields.specs.Laws.LenEnc.{keeps_lenenc}
use Rattle.binlog_variable_fields.specs.Laws.Varlen.{keeps_varlen}
use Rattle.binlog_variable_fields.specs.Formats.{varlen_signed}
use Rattle.binlog_wire.specs.Formats.{anywhere}
use Rattle.binlog_variable_fields.proofs.laws.numbers_are_spelled.Goals as goal

pub returns-clause-lenenc : goal.returns-clause-lenenc
returns-clause-lenenc c = keeps_lenenc

pub returns-clause-varlen : goal.returns-clause-varlen
returns-clause-varlen c = keeps_varlen

pub returns-clause-signed : goal.returns-clause-signed
returns-clause-signed c = (varlen_signed {place = anywhere}).keeps
