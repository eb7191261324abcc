use Rattle.binlog_statistics_command.proofs.WrittenRows.{lines_written, text_written}
use Rattle.binlog_statistics_command.proofs.table_statistics.write_sorted.Goals as goal

pub returns-then-options : goal.returns-then-options
returns-then-options g c = rw c.if-options.true (lines_written _ c.write_tables_json-written.result c.outcome_of_lines.result c.outcome_of_lines.ensures c.write_tables_json-written.ensures)

pub returns : goal.returns
returns g c = rw c.if-options.false (text_written _ c.write_tables.result c.outcome_of_text.result c.outcome_of_text.ensures c.write_tables.ensures)
