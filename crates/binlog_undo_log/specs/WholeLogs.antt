-- Logs that are read without a refusal: a file header, and nothing but events.
use Rattle.std.specs.Prelude.{◌≡◌, ℕ, ◌+◌, ◌%◌, ◌^◌, false, true, List, [], ◌∷◌, ◌++◌, length, map, Option, Some, None, Ok, IsSomeAnd}
use Rattle.std.specs.List.{flat_map}
use Rattle.binlog_consts.specs.EventTypes.{event_number}
use Rattle.binlog_consts.specs.declared.version.BinlogVersion.TheVariants.{Version4}
use Rattle.binlog_event_format.specs.FormatDescription.{default_description}
use Rattle.binlog_event_format.specs.Headers.{header_of}
use Rattle.binlog_event_format.specs.declared.format_description.FormatDescriptionEvent.{FormatDescriptionEvent}
use Rattle.binlog_events.specs.Events.{EventView}
use Rattle.binlog_events.specs.FileHeader.{file_header}
use Rattle.binlog_events.specs.Parts.{data_of}
use Rattle.binlog_file.specs.Descriptions.{accepted}
use Rattle.binlog_file.specs.VerifiedFiles.{AreVerifiedItems}
use Rattle.crc32_ieee.specs.Checksums.{IsCrc32}
use Rattle.binlog_undo.specs.declared.inverse_event.ForeignKeyChecks.{ForeignKeyChecks}
use Rattle.binlog_undo_index.specs.Groups.{Kept}
use Rattle.binlog_undo_index.specs.declared.places.ChangePlace.{ChangePlace}
use Rattle.binlog_undo_index.specs.declared.places.TransactionPlace.{TransactionPlace}
use Rattle.binlog_undo_log.specs.Descriptions.{written_description}
use Rattle.binlog_undo_log.specs.LogChanges.{LogChange, AreKeptChanges, AreReadChanges}
use Rattle.binlog_undo_log.specs.Places.{FramesOf}
use Rattle.binlog_undo_log.specs.Undoing.{UndoesAll}
use Rattle.binlog_undo_log.specs.declared.output.UndoOutput.{UndoOutput}
use Rattle.binlog_undo.specs.Transactions.{Event}
use Rattle.table_changes.specs.Changes.{inverse}

-- ---- any log

-- The log position of each event is the place behind it, modulo 2^32. The first one begins at this place.
abbrev pub ArePlaced : ℕ → List EventView → Type 0
ArePlaced place [] = Unit {0}
ArePlaced place (event ∷ events) = ((header_of event.frame).log_pos ≡ (place + length event.frame) % 2 ^ 32) × ArePlaced (place + length event.frame) events

-- The bytes are a file header and these events, one behind the other, with nothing between them or behind them. Each checksum that is
-- due is right.
pub record IsLogOf (events : List EventView) (bytes : List ℕ) : Type 0 where
  pub stream : List ℕ
  pub file : bytes ≡ file_header ++ stream
  pub whole : stream ≡ flat_map (λ event. event.frame) events
  pub are : AreVerifiedItems IsCrc32 (default_description Version4) stream (map Ok events)
  pub placed : ArePlaced 4 events

-- ---- a log that is written

-- The event is read with the type, the heading and the body that were written.
pub record IsReadAs (d : FormatDescriptionEvent) (written : Event) (event : EventView) : Type 0 where
  pub fde : event.fde ≡ d
  pub event_type : (header_of event.frame).event_type ≡ event_number written.event_type
  pub timestamp : (header_of event.frame).timestamp ≡ written.heading.timestamp
  pub server_id : (header_of event.frame).server_id ≡ written.heading.server_id
  pub flags : (header_of event.frame).flags ≡ written.heading.flags
  pub body : data_of d.footer event.frame ≡ written.body

abbrev pub AreReadAs : FormatDescriptionEvent → List Event → List EventView → Type 0
AreReadAs d [] events = events ≡ []
AreReadAs d (first ∷ written) events = (event : EventView) × (others : List EventView) × (events ≡ event ∷ others) × IsReadAs d first event × AreReadAs d written others

-- The log is this description, and these events behind it.
pub record IsLogUnder (d : FormatDescriptionEvent) (written : List Event) (bytes : List ℕ) : Type 0 where
  pub description : EventView
  pub events : List EventView
  pub log : IsLogOf (description ∷ events) bytes
  pub describes : accepted description.frame ≡ Some d
  pub are : AreReadAs d written events

-- A log in front of the first event. Each transaction is to have a BEGIN and an XID of its own.
pub record IsNewLog {W : Type 0} (contents : W → Option (List ℕ)) (output : UndoOutput W) : Type 0 where
  pub bytes : contents output.writer ≡ Some file_header
  pub place : output.place ≡ 4
  pub description : output.description ≡ None
  pub bounds : output.has_bounds ≡ true

-- A log of a description, and of the events that undo these transactions; of no event if there are none.
abbrev pub IsUndoLog : FramesOf → ForeignKeyChecks → List TransactionPlace → List ChangePlace → List ℕ → Type 0
IsUndoLog is_at checks [] changes bytes = IsLogOf [] bytes
IsUndoLog is_at checks (transaction ∷ transactions) changes bytes =
    (d : FormatDescriptionEvent) × (events : List Event) × UndoesAll is_at d checks (transaction ∷ transactions) changes events × IsLogUnder (written_description d) events bytes

-- The bytes that were written are such a log.
abbrev pub HasUndoLog : {W : Type 0} → (W → Option (List ℕ)) → FramesOf → ForeignKeyChecks → List TransactionPlace → List ChangePlace → UndoOutput W → Type 0
HasUndoLog contents is_at checks transactions changes output = IsSomeAnd (contents output.writer) (IsUndoLog is_at checks transactions changes)

-- ---- its changes

-- The log is a description, and events behind it that are these changes as they are read.
pub record IsLogOfChanges (changes : List LogChange) (bytes : List ℕ) : Type 0 where
  pub description : EventView
  pub events : List EventView
  pub log : IsLogOf (description ∷ events) bytes
  pub are : AreReadChanges events changes

-- The log is the inverse of the changes of these transactions; it has no event if there are none.
abbrev pub IsInverseLog : FramesOf → List Kept → List ℕ → Type 0
IsInverseLog is_at [] bytes = IsLogOf [] bytes
IsInverseLog is_at (first ∷ others) bytes =
    (d : FormatDescriptionEvent) × (changes : List LogChange) × AreKeptChanges is_at d (first ∷ others) changes × IsLogOfChanges (inverse changes) bytes

abbrev pub HasInverseLog : {W : Type 0} → (W → Option (List ℕ)) → FramesOf → List Kept → UndoOutput W → Type 0
HasInverseLog contents is_at kept output = IsSomeAnd (contents output.writer) (IsInverseLog is_at kept)
