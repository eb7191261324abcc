use Rattle.std.proofs.Common.{◌≡◌, ◌++◌, List, length}
use Rattle.binlog_event_format.specs.DescriptionRefs.{description_of}
use Rattle.binlog_undo_index.specs.declared.places.ChangePlace.{ChangePlace}
use Rattle.binlog_undo_log.proofs.Undone.{AreAmong}
use Rattle.binlog_undo_log.specs.Output.{GrowsBy}
use Rattle.binlog_undo_log.specs.Undoing.{UndoesChanges}
use Rattle.binlog_undo_log.proofs.writing.write_changes.Given as goal

abbrev pub invariant-changes : goal.invariant-changes
invariant-changes g l = record {
  done : (changes : List ChangePlace) × (l.fn.changes ≡ l.left ++ changes)
      × GrowsBy g.W.WriteCounted.contents (UndoesChanges (g.F.Frames.is_at l.fn.frames) (description_of l.fde) l.checks changes) l.fn.output l.output;
  among : AreAmong (g.F.Frames.is_at l.frames) (g.F.Frames.is_at l.fn.frames);
}

abbrev pub decreases-changes : goal.decreases-changes
decreases-changes g l = length l.left
