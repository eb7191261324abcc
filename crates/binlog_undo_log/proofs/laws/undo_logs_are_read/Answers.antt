use Rattle.binlog_undo_index.specs.Parts.{parts_of}
use Rattle.binlog_undo_log.proofs.UndoLogs.{file_log}
use Rattle.binlog_undo_log.proofs.laws.undo_logs_are_read.Goals as goal

pub returns : goal.returns
returns g c =
    λ frames scan old new fresh writes.
    file_log g.W.WriteCounted.contents (g.F.Frames.is_at frames) scan.checks scan.description (parts_of scan.index).transactions (parts_of scan.index).changes old new fresh writes
