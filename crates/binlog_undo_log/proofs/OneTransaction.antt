-- The beginning of one transaction for all that is undone.
use Rattle.std.proofs.Common.{◌≡◌, ℕ, List, Option, Some, subst}
use Rattle.binlog_consts.specs.declared.version.BinlogVersion.TheVariants.{Version4}
use Rattle.binlog_event_format.specs.FormatDescription.{default_description}
use Rattle.binlog_event_format.specs.Headers.{header_of}
use Rattle.binlog_event_format.specs.declared.format_description.FormatDescriptionEvent.{FormatDescriptionEvent}
use Rattle.binlog_event_format.specs.declared.header.BinlogEventHeader.{BinlogEventHeader}
use Rattle.binlog_events.specs.Events.{EventView, event_at}
use Rattle.binlog_undo_log.proofs.Undone.{AreAmong}
use Rattle.binlog_undo_log.specs.Descriptions.{DescribesOnce}
use Rattle.binlog_undo_log.specs.Files.{IsDescribed}
use Rattle.binlog_undo_log.specs.OneTransaction.{BeginsBy, BeginsUnder}
use Rattle.binlog_undo_log.specs.Places.{FramesOf}
use Rattle.binlog_undo_log.specs.Undoing.{HasRightChecksum}
use Rattle.binlog_undo_log.specs.declared.one_transaction.Commit.{Commit}
use Rattle.binlog_undo_log.specs.declared.output.UndoOutput.{UndoOutput}

module _ {W : Type 0} (contents : W → Option (List ℕ)) (is_at now : FramesOf) (among : AreAmong now is_at) where
  begins_from : (fde : FormatDescriptionEvent) (last : ℕ) (commit : Commit) (old new : UndoOutput W) → BeginsBy contents now fde last commit old new → BeginsBy contents is_at fde last commit old new
  begins_from fde last commit old new h = record {
    event = h.event;
    event_at = record { frame = h.event_at.frame; at = among last h.event_at.frame h.event_at.at; is = h.event_at.is; right = h.event_at.right };
    header = h.header;
    reads = h.reads;
    begun = h.begun;
    begins = h.begins;
    is = h.is;
  }

  -- The description is at its place, and is written in front.
  pub begun_under : (place last : ℕ) (commit : Commit) (frame : List ℕ) (first : FormatDescriptionEvent) (event : EventView) (d : FormatDescriptionEvent) (header : BinlogEventHeader)
      (old between new : UndoOutput W) → is_at place frame → first ≡ default_description Version4 → event_at first frame ≡ Some event → HasRightChecksum event → IsDescribed event d
      → header ≡ header_of event.frame → DescribesOnce contents header d old between → BeginsBy contents now d last commit between new
      → BeginsUnder contents is_at place last commit old new
  begun_under place last commit frame first event d header old between new at default is right described head describes h = record {
    event = event;
    event_at = record { frame = frame; at = at; is = subst (λ (f : FormatDescriptionEvent). event_at f frame ≡ Some event) default is; right = right };
    d = d;
    described = described;
    between = between;
    describes = subst (λ (x : BinlogEventHeader). DescribesOnce contents x d old between) head describes;
    begins = begins_from d last commit between new h;
  }
