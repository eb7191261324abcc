use Rattle.binlog_undo.proofs.EventChanges.{some_changes, inverse_changes, changes_lead_back}
use Rattle.binlog_undo.proofs.laws.events_are_undone.Goals as goal

pub returns : goal.returns
returns g c = record {
  some = λ table key columns checks event undoing u. some_changes table key columns checks event undoing u;
  changes = λ table key columns checks event undoing changes u h. inverse_changes table key columns checks event undoing u changes h;
  back = λ table key columns checks event undoing changes old new u h a. changes_lead_back table key columns checks event undoing u changes old new h a;
}
