use Rattle.std.proofs.Common.{◌≡◌, ◌++◌, List, length}
use Rattle.binlog_event_format.specs.DescriptionRefs.{description_of}
use Rattle.binlog_undo_index.specs.declared.places.ChangePlace.{ChangePlace}
use Rattle.binlog_undo_index.specs.declared.places.TransactionPlace.{TransactionPlace}
use Rattle.binlog_undo_log.proofs.Undone.{AreAmong}
use Rattle.binlog_undo_log.specs.Output.{GrowsBy}
use Rattle.binlog_undo_log.specs.Undoing.{UndoesAll}
use Rattle.binlog_undo_log.proofs.writing.write_undo.Given as goal

abbrev pub invariant-transactions : goal.invariant-transactions
invariant-transactions g l = record {
  done : (transactions : List TransactionPlace) × (changes : List ChangePlace) × (l.fn.transactions ≡ l.left ++ transactions) × (l.fn.changes ≡ l.changes_left ++ changes)
      × GrowsBy g.W.WriteCounted.contents (UndoesAll (g.F.Frames.is_at l.fn.frames) (description_of l.fde) l.checks transactions changes) l.fn.output l.output;
  among : AreAmong (g.F.Frames.is_at l.frames) (g.F.Frames.is_at l.fn.frames);
}

abbrev pub decreases-transactions : goal.decreases-transactions
decreases-transactions g l = length l.left
