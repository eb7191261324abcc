use Rattle.std.proofs.Common.{◌≡◌, ◌++◌, List, length}
use Rattle.binlog_event_format.specs.DescriptionRefs.{description_of}
use Rattle.binlog_undo_index.specs.declared.places.ChangePlace.{ChangePlace}
use Rattle.binlog_undo_log.proofs.Undone.{AreAmong}
use Rattle.binlog_undo_log.specs.Visiting.{VisitsThose, AreAtEach}
use Rattle.binlog_undo_log.proofs.visiting.visit_changes.Given as goal

abbrev pub invariant-changes : goal.invariant-changes
invariant-changes g l = record {
  done : (changes : List ChangePlace) × (l.fn.changes ≡ l.left ++ changes)
      × VisitsThose g.V.RowsVisitor.visits (AreAtEach (g.F.Frames.is_at l.fn.frames) (description_of l.fde) changes) l.fn.visitor l.visitor;
  among : AreAmong (g.F.Frames.is_at l.frames) (g.F.Frames.is_at l.fn.frames);
}

abbrev pub decreases-changes : goal.decreases-changes
decreases-changes g l = length l.left
