use Rattle.std.proofs.Common.{List, subst}
use Rattle.table_changes.specs.Changes.{Change}
use Rattle.table_changes.proofs.Inverses.{inverses_twice}
use Rattle.binlog_undo.specs.EventChanges.{HasChanges}
use Rattle.binlog_undo.specs.RowChanges.{TableRow}
use Rattle.binlog_undo.proofs.EventChanges.{inverse_changes, undone_twice}
use Rattle.binlog_undo.proofs.laws.events_are_undone_twice.Goals as goal

pub returns : goal.returns
returns g c = record {
  changes = λ table key others columns checks again event undoing redoing changes u v h.
      subst (λ (all : List (Change _ TableRow)). HasChanges table columns redoing all) (inverses_twice changes)
      (inverse_changes table others columns again undoing redoing v _ (inverse_changes table key columns checks event undoing u changes h));
  bytes = λ key others columns checks again event undoing redoing u v whole. undone_twice key others columns checks again event undoing redoing u v whole;
}
