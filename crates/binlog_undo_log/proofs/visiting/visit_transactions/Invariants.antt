use Rattle.std.proofs.Common.{◌≡◌, ◌++◌, List, length}
use Rattle.binlog_event_format.specs.DescriptionRefs.{description_of}
use Rattle.binlog_undo_index.specs.declared.places.ChangePlace.{ChangePlace}
use Rattle.binlog_undo_index.specs.declared.places.TransactionPlace.{TransactionPlace}
use Rattle.binlog_undo_log.proofs.Undone.{AreAmong}
use Rattle.binlog_undo_log.specs.Visiting.{VisitsThose, AreOfAll}
use Rattle.binlog_undo_log.proofs.visiting.visit_transactions.Given as goal

abbrev pub invariant-transactions : goal.invariant-transactions
invariant-transactions g l = record {
  done : (transactions : List TransactionPlace) × (changes : List ChangePlace) × (l.fn.transactions ≡ l.left ++ transactions) × (l.fn.changes ≡ l.changes_left ++ changes)
      × VisitsThose g.V.RowsVisitor.visits (AreOfAll (g.F.Frames.is_at l.fn.frames) (description_of l.fde) transactions changes) l.fn.visitor l.visitor;
  among : AreAmong (g.F.Frames.is_at l.frames) (g.F.Frames.is_at l.fn.frames);
}

abbrev pub decreases-transactions : goal.decreases-transactions
decreases-transactions g l = length l.left
