use Rattle.std.proofs.Common.{◌∙◌}
use Rattle.binlog_json_lines.proofs.part_writer.part_line.Goals as goal

pub line_of_rows-line-requires : goal.line_of_rows-line-requires
line_of_rows-line-requires c = c.rows_of_read-rows.ensures ∙ c.read_rows-read.ensures
