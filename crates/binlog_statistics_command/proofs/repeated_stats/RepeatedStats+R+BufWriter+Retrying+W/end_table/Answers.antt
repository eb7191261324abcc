use Rattle.binlog_statistics_command.proofs.WrittenRows.{text_is_written}
use Rattle.binlog_statistics_command.proofs.repeated_stats.RepeatedStats+R+BufWriter+Retrying+W.end_table.Goals as goal

pub returns-clause-line : goal.returns-clause-line
returns-clause-line g c = text_is_written _ c.end_line-ended.result c.outcome_of_text.result c.outcome_of_text.ensures c.end_line-ended.ensures.line
