use Rattle.std.proofs.Common.{length}
use Rattle.binlog_undo_command.proofs.AllLogs.{all_inverse}
use Rattle.binlog_undo_command.proofs.laws.all_logs_are_inverse.Goals as goal

pub returns : goal.returns
returns g c =
    λ logs found bytes names scanned old new known small there undone empty written.
    all_inverse (g.L.Logs.bytes logs) bytes (g.L.Logs.has_frames logs) g.L.Sought.Frames.is_at g.W.WriteCounted.contents found known small there (length names) names scanned old new undone
    empty written
