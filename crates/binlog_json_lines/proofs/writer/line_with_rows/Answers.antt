use Rattle.std.proofs.Common.{◌∙◌}
use Rattle.binlog_json_lines.proofs.writer.line_with_rows.Goals as goal

pub line_of_rows-line-requires-clause-read : goal.line_of_rows-line-requires-clause-read
line_of_rows-line-requires-clause-read c = c.rows_of_read-rows.ensures ∙ c.read_rows-read.ensures
