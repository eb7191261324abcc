-- All that is undone as one transaction.
use Rattle.std.specs.Prelude.{◌≡◌, ℕ, Bool, false, List, [], ◌∷◌, ◌++◌, Option, Some}
use Rattle.binlog_consts.specs.declared.version.BinlogVersion.TheVariants.{Version4}
use Rattle.binlog_event_format.specs.FormatDescription.{default_description}
use Rattle.binlog_event_format.specs.Headers.{header_of}
use Rattle.binlog_event_format.specs.declared.format_description.FormatDescriptionEvent.{FormatDescriptionEvent}
use Rattle.binlog_events.specs.Events.{EventView}
use Rattle.binlog_undo_index.specs.Parts.{parts_of}
use Rattle.binlog_undo_index.specs.declared.places.TransactionPlace.{TransactionPlace}
use Rattle.binlog_undo_log.specs.Descriptions.{DescribesOnce, description_body, has_checksums_under}
use Rattle.binlog_undo_log.specs.Files.{IsDescribed}
use Rattle.binlog_undo_log.specs.Output.{Pushes}
use Rattle.binlog_undo_log.specs.Places.{FramesOf}
use Rattle.binlog_undo_log.specs.Undoing.{IsEventAt, ReadsXid, begin_event}
use Rattle.binlog_undo_log.specs.declared.one_transaction.Commit.{Commit}
use Rattle.binlog_undo_log.specs.declared.output.UndoOutput.{UndoOutput}
use Rattle.binlog_undo_log.specs.declared.scan.UndoScan.{UndoScan}

-- A BEGIN is written by the event at a place, which is to be the end's as well. No transaction behind it has bounds of its own.
pub record BeginsBy {W : Type 0} (contents : W → Option (List ℕ)) (is_at : FramesOf) (fde : FormatDescriptionEvent) (last : ℕ) (commit : Commit) (old new : UndoOutput W) : Type 0 where
  pub event : EventView
  pub event_at : IsEventAt is_at fde last event
  pub header : commit.header ≡ header_of event.frame
  pub reads : ReadsXid event commit.xid
  pub begun : UndoOutput W
  pub begins : Pushes contents (begin_event commit.header ∷ []) old begun
  pub is : new ≡ record begun { has_bounds = false }

-- In front of it the description at a place is written.
pub record BeginsUnder {W : Type 0} (contents : W → Option (List ℕ)) (is_at : FramesOf) (place last : ℕ) (commit : Commit) (old new : UndoOutput W) : Type 0 where
  pub event : EventView
  pub event_at : IsEventAt is_at (default_description Version4) place event
  pub d : FormatDescriptionEvent
  pub described : IsDescribed event d
  pub between : UndoOutput W
  pub describes : DescribesOnce contents (header_of event.frame) d old between
  pub begins : BeginsBy contents is_at d last commit between new

-- Of a file: by the last event of the last transaction that the first pass kept.
pub record BeginsOne {W : Type 0} (contents : W → Option (List ℕ)) (is_at : FramesOf) (scan : UndoScan) (commit : Commit) (old new : UndoOutput W) : Type 0 where
  pub front : List TransactionPlace
  pub transaction : TransactionPlace
  pub are : (parts_of scan.index).transactions ≡ front ++ transaction ∷ []
  pub place : ℕ
  pub at : scan.description ≡ Some place
  pub begins : BeginsUnder contents is_at place transaction.last commit old new

-- ---- the description of a file

-- The body and the checksums of the description at a place, as it is written.
pub record DescriptionAt (is_at : FramesOf) (place : ℕ) (body : List ℕ) (has_checksums : Bool) : Type 0 where
  pub event : EventView
  pub event_at : IsEventAt is_at (default_description Version4) place event
  pub d : FormatDescriptionEvent
  pub described : IsDescribed event d
  pub body_is : body ≡ description_body d
  pub checksums : has_checksums ≡ has_checksums_under d.footer.checksum_alg

-- Those of the description under which what undoes a file is written. It has transactions that are undone.
pub record DescriptionOf (is_at : FramesOf) (scan : UndoScan) (body : List ℕ) (has_checksums : Bool) : Type 0 where
  pub kept : (parts_of scan.index).transactions ≡ [] → ⊥
  pub place : ℕ
  pub at : scan.description ≡ Some place
  pub is : DescriptionAt is_at place body has_checksums
