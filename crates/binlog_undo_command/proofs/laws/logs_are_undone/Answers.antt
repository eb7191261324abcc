use Rattle.std.proofs.Common.{length}
use Rattle.binlog_undo_command.proofs.UndoneLogs.{all_undone}
use Rattle.binlog_undo_command.proofs.laws.logs_are_undone.Goals as goal

pub returns : goal.returns
returns g c =
    λ logs found is_one names scanned old new there are written.
    all_undone (g.L.Logs.bytes logs) (g.L.Logs.has_frames logs) g.L.Sought.Frames.is_at g.W.WriteCounted.contents found there (length names) names is_one scanned old new are written
