use Rattle.std.proofs.Common.{map}
use Rattle.binlog_images.specs.RowCells.{answer_row}
use Rattle.binlog_change_lines.specs.RowsHeads.{head_in}
use Rattle.binlog_change_lines.proofs.Lines.{SoFar}
use Rattle.binlog_change_lines.proofs.row_lines.RowLines.write_rows.Given as goal

abbrev pub invariant-rows : goal.invariant-rows
invariant-rows l = SoFar (head_in l.head l.facts.refusal) l.facts.columns.items (map answer_row l.yielded) l.all_read l.self.text.items
