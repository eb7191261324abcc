use Rattle.binlog_undo_log.proofs.Scanned.{file_scanned}
use Rattle.binlog_undo_log.proofs.laws.files_are_scanned.Goals as goal

pub returns : goal.returns
returns c = λ choice checks skips bytes start scan fresh h skipped. file_scanned choice checks skips bytes start scan fresh h skipped
