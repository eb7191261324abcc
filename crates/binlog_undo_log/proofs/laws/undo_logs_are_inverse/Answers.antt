use Rattle.binlog_undo_index.specs.Parts.{parts_of}
use Rattle.binlog_undo_log.proofs.UndoLogs.{file_inverse}
use Rattle.binlog_undo_log.proofs.laws.undo_logs_are_inverse.Goals as goal

pub returns : goal.returns
returns g c =
    λ frames kept scan old new fresh keeps writes.
    file_inverse g.W.WriteCounted.contents (g.F.Frames.is_at frames) scan.checks scan.description kept (parts_of scan.index).transactions (parts_of scan.index).changes old new fresh keeps
    writes
