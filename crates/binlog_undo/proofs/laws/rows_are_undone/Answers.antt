use Rattle.binlog_undo.proofs.RowChanges.{changes_back, rows_lead_back}
use Rattle.binlog_undo.proofs.laws.rows_are_undone.Goals as goal

pub returns : goal.returns
returns g c = record {
  changes = λ table rows h. changes_back table rows h;
  back = λ table rows old new h a. rows_lead_back table rows old new h a;
}
