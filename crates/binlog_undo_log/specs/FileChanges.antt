-- What is written for a file: the inverse of the changes of its transactions that are undone.
use Rattle.std.specs.Prelude.{◌≡◌, ℕ, List, [], ◌∷◌, ◌++◌, Option, Result, Ok}
use Rattle.std.specs.List.{AllByRecursion}
use Rattle.binlog_consts.specs.declared.version.BinlogVersion.TheVariants.{Version4}
use Rattle.binlog_event_format.specs.FormatDescription.{default_description}
use Rattle.binlog_event_format.specs.Headers.{header_of}
use Rattle.binlog_event_format.specs.declared.format_description.FormatDescriptionEvent.{FormatDescriptionEvent}
use Rattle.binlog_events.specs.Events.{EventView}
use Rattle.binlog_wire.specs.declared.error.Error.{Error}
use Rattle.binlog_undo_index.specs.Groups.{Kept, kept_in}
use Rattle.binlog_undo_index.specs.declared.rules.Rules.{Rules}
use Rattle.binlog_undo_index.specs.declared.seen.SeenEvent.{SeenEvent}
use Rattle.binlog_undo_log.specs.Descriptions.{DescribesOnce}
use Rattle.binlog_undo_log.specs.Files.{IsScanned, IsDescribed, groups_of}
use Rattle.binlog_undo_log.specs.LogChanges.{LogChange, AreKeptChanges, AreLogChanges}
use Rattle.binlog_undo_log.specs.Output.{Grows}
use Rattle.binlog_undo_log.specs.Places.{IsFrameIn}
use Rattle.binlog_undo_log.specs.Scanning.{border_at}
use Rattle.binlog_undo_log.specs.Places.{FramesOf}
use Rattle.binlog_undo_log.specs.Undoing.{IsEventAt}
use Rattle.binlog_undo_log.specs.declared.output.UndoOutput.{UndoOutput}
use Rattle.binlog_undo_log.specs.declared.scan.UndoScan.{UndoScan}
use Rattle.binlog_undo.specs.Transactions.{Event}
use Rattle.table_changes.specs.Changes.{inverse}

-- Each of these items is an event whose frame is at the place of what is seen of it, and of the events inside.
abbrev pub AreAtPlaces : List ℕ → List (Result EventView Error) → List SeenEvent → Type 0
AreAtPlaces bytes [] seen = seen ≡ []
AreAtPlaces bytes (item ∷ items) seen =
    (event : EventView) × (own : List SeenEvent) × (others : List SeenEvent) × (item ≡ Ok event) × (seen ≡ own ++ others)
    × AllByRecursion (λ (one : SeenEvent). IsFrameIn bytes one.place event.frame) own × AreAtPlaces bytes items others

-- The frames are those of a file of these bytes.
abbrev pub AreFramesOf : List ℕ → FramesOf → Type 0
AreFramesOf bytes is_at = (place : ℕ) (frame : List ℕ) → is_at place frame → IsFrameIn bytes place frame

-- The transactions of a file that are undone, of whose events this is seen.
abbrev pub undone_of : Rules → List SeenEvent → UndoScan → List Kept
undone_of rules seen behind = kept_in rules (groups_of (seen ++ border_at behind ∷ []))

-- The events behind a description are the inverse of the changes of these transactions.
pub record WritesInverse {W : Type 0} (contents : W → Option (List ℕ)) (is_at : FramesOf) (kept : List Kept) (old new : UndoOutput W) : Type 0 where
  pub place : ℕ
  pub event : EventView
  pub event_at : IsEventAt is_at (default_description Version4) place event
  pub d : FormatDescriptionEvent
  pub described : IsDescribed event d
  pub between : UndoOutput W
  pub describes : DescribesOnce contents (header_of event.frame) d old between
  pub changes : List LogChange
  pub are : AreKeptChanges is_at d kept changes
  pub events : List Event
  pub inverse_are : AreLogChanges d events (inverse changes)
  pub grows : Grows contents events between new

-- Nothing is written where no transaction is undone.
abbrev pub WritesInverseIfAny : {W : Type 0} → (W → Option (List ℕ)) → FramesOf → List Kept → UndoOutput W → UndoOutput W → Type 0
WritesInverseIfAny contents is_at [] old new = new ≡ old
WritesInverseIfAny contents is_at (first ∷ others) old new = WritesInverse contents is_at (first ∷ others) old new

-- A file of these bytes is undone: its items, or those up to the stop position, are events, which are at their places, and what is written is the inverse of the
-- changes of its transactions that are undone.
pub record UndoesFile {W : Type 0} (contents : W → Option (List ℕ)) (rules : Rules) (bytes : List ℕ) (start scan : UndoScan) (old new : UndoOutput W) : Type 0 where
  pub scanned : IsScanned rules bytes start scan
  pub places : AreAtPlaces bytes scanned.front scanned.seen
  pub undoes : WritesInverseIfAny contents (IsFrameIn bytes) (undone_of rules scanned.seen scanned.behind) old new
