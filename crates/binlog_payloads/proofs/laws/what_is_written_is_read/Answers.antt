use Rattle.binlog_payloads.specs.Writing.{written}
use Rattle.binlog_payloads.proofs.FieldLists.{data_complete}
use Rattle.binlog_payloads.proofs.WrittenFields.{written_spelled}
use Rattle.binlog_payloads.proofs.laws.what_is_written_is_read.Goals as goal

pub returns-clause-spelled : goal.returns-clause-spelled
returns-clause-spelled c = written_spelled

pub returns-clause-read : goal.returns-clause-read
returns-clause-read c event fits = data_complete (written event) event (written_spelled event fits)
