use Rattle.binlog_undo_command.proofs.LaterRows.{rows_apart}
use Rattle.binlog_undo_command.proofs.laws.rows_that_stay_are_apart.Goals as goal

pub returns : goal.returns
returns g c = λ logs bytes rules unread scanned names changes later checks none. rows_apart bytes rules unread checks (g.L.Logs.has_frames logs) g.L.Sought.Frames.is_at scanned names changes later none
