use Rattle.table_changes.proofs.Inverses.{all_applied_back}
use Rattle.binlog_undo_log.proofs.LogChanges.{kept_undone}
use Rattle.binlog_undo_log.proofs.laws.logs_are_undone.Goals as goal

pub returns : goal.returns
returns g c = record {
  changes = λ frames fde checks kept events h. kept_undone (g.F.Frames.is_at frames) fde checks kept events h;
  back = λ changes old new h. all_applied_back changes old new h;
}
