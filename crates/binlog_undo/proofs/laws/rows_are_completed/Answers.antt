use Rattle.binlog_undo.proofs.RowChanges.{absent_stays, present_is_new}
use Rattle.binlog_undo.proofs.laws.rows_are_completed.Goals as goal

pub returns : goal.returns
returns c = record {
  stays = λ old new k e h. absent_stays old new k e h;
  new = λ old new k e h. present_is_new old new k e h;
}
