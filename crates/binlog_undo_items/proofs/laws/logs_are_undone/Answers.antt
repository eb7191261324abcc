use Rattle.binlog_undo_items.proofs.UndoneLogs.{request_undone}
use Rattle.binlog_undo_items.proofs.laws.logs_are_undone.Goals as goal

pub returns : goal.returns
returns g c = λ request logs old new short scans skipped written. request_undone g.W.WriteCounted.contents request logs old new short scans skipped written
