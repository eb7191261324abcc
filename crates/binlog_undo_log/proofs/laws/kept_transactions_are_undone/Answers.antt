use Rattle.binlog_undo_log.proofs.Undone.{kept_are_undone}
use Rattle.binlog_undo_log.proofs.laws.kept_transactions_are_undone.Goals as goal

pub returns : goal.returns
returns g c = λ frames fde checks kept transactions changes events are h. kept_are_undone (g.F.Frames.is_at frames) fde checks kept transactions changes events are h
