use Rattle.binlog_filters.proofs.CopiedLogs.{copied_log}
use Rattle.binlog_commands.proofs.laws.copies_are_logs.Goals as goal

pub returns : goal.returns
returns c = copied_log
