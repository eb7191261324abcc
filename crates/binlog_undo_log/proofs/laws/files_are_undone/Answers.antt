use Rattle.binlog_undo_log.proofs.FileChanges.{file_undone}
use Rattle.binlog_undo_log.proofs.laws.files_are_undone.Goals as goal

pub returns : goal.returns
returns g c =
    λ frames choice checks skips bytes start scan old new small there fresh h skipped writes.
    file_undone g.W.WriteCounted.contents (g.F.Frames.is_at frames) choice checks skips bytes start scan old new small there fresh h skipped writes
