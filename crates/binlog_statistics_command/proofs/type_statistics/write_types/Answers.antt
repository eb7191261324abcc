use Rattle.binlog_statistics_command.proofs.WrittenRows.{lines_written, text_is_written}
use Rattle.binlog_statistics_command.proofs.type_statistics.write_types.Goals as goal

pub returns-then-is_json : goal.returns-then-is_json
returns-then-is_json g c = rw c.if-is_json.true (lines_written _ c.write_lines-written.result c.outcome_of_lines.result c.outcome_of_lines.ensures c.write_lines-written.ensures)

pub returns : goal.returns
returns g c = rw c.if-is_json.false (text_is_written _ c.write_text.result c.outcome_of_text.result c.outcome_of_text.ensures c.write_text.ensures)
