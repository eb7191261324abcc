use Rattle.binlog_undo_command.proofs.RowCounts.{rows_counted}
use Rattle.binlog_undo_command.proofs.laws.undone_rows_are_counted.Goals as goal

pub returns : goal.returns
returns g c = λ logs scanned stats counts. rows_counted (g.L.Logs.has_frames logs) g.L.Sought.Frames.is_at scanned stats counts
