-- Which events undo those at some places of a file.
use Rattle.std.specs.Prelude.{◌≡◌, ◌≢◌, ◌⊎◌, ℕ, Bool, true, List, [], ◌∷◌, ◌++◌, length, Option, Some, None, IfSome, Result, Ok}
use Rattle.binlog_columns.specs.Refusals.{refusal, columns_in}
use Rattle.binlog_event_data.specs.declared.event_data.EventData.{EventData}
use Rattle.binlog_event_data.specs.declared.event_data.EventData.TheVariants as mysql
use Rattle.binlog_file.specs.declared.log_data.LogEventData.{LogEventData}
use Rattle.binlog_mariadb.specs.declared.compressed_rows.RowsCompressedEvent.{RowsCompressedEvent}
use Rattle.binlog_wire.specs.declared.error.Error.{Error}
use Rattle.binlog_event_format.specs.Headers.{header_of}
use Rattle.binlog_event_format.specs.declared.format_description.FormatDescriptionEvent.{FormatDescriptionEvent}
use Rattle.binlog_event_format.specs.declared.header.BinlogEventHeader.{BinlogEventHeader}
use Rattle.binlog_events.specs.Events.{EventView, event_at, ReadsEventData}
use Rattle.binlog_events.specs.Parts.{data_of, checksum_of}
use Rattle.binlog_events.specs.Checksums.{checksummed}
use Rattle.binlog_wire.specs.Fields.{little_bytes}
use Rattle.crc32_ieee.specs.Crc32.{crc32}
use Rattle.binlog_rows.specs.RowsData.{event_in}
use Rattle.binlog_rows.specs.declared.rows_event_data.RowsEventData.{RowsEventData}
use Rattle.binlog_rows.specs.declared.table_map_event.TableMapEvent.{TableMapEvent}
use Rattle.binlog_undo.specs.declared.inverse_event.ForeignKeyChecks.{ForeignKeyChecks}
use Rattle.binlog_undo.specs.declared.inverse_event.InverseEvent.{InverseEvent}
use Rattle.binlog_undo_index.specs.Groups.{Kept}
use Rattle.binlog_undo_index.specs.declared.places.ChangePlace.{ChangePlace}
use Rattle.binlog_undo_index.specs.declared.places.TransactionPlace.{TransactionPlace}
use Rattle.binlog_consts.specs.declared.event_type.EventType.TheVariants.{QUERY_EVENT, XID_EVENT, TABLE_MAP_EVENT}
use Rattle.binlog_bodies.specs.declared.events.xid.XidEvent.{XidEvent}
use Rattle.binlog_undo_log.specs.Heads.{has_rows_length}
use Rattle.binlog_undo_log.specs.Keys.{IsMariaEvent, GivesByKey}
use Rattle.binlog_undo_log.specs.Compressed.{ReadsUncompressed, HasCompressedRows, IsReadAsRows, ReadsRows}
use Rattle.binlog_undo_log.specs.Places.{FramesOf, InContent, AtPlaces}
use Rattle.binlog_undo.specs.Events.{begin_body, xid_body}
use Rattle.binlog_undo.specs.Headings.{begin_heading, commit_heading, source_heading}
use Rattle.binlog_undo.specs.Transactions.{Event, AreWritten}
use Rattle.binlog_undo.specs.declared.events_writer.EventsWriter.{EventsWriter}

-- Events of which this holds are written.
abbrev pub Writes : (List Event → Type 0) → EventsWriter → EventsWriter → Type 0
Writes are old new = (events : List Event) × are events × AreWritten events old new

-- ---- a row event

-- The event undoes these rows, of the table of this table map.
pub record UndoesTable (is_maria_log : Bool) (checks : ForeignKeyChecks) (map : TableMapEvent) (rows : RowsEventData) (inverse : InverseEvent) : Type 0 where
  pub same : map.table.id ≡ (event_in rows).head.table_id
  pub columns : refusal 0 map.columns.types map.columns.metadata ≡ None
  pub undoes : GivesByKey is_maria_log map (columns_in map.columns.types map.columns.metadata) checks rows (Ok inverse)

-- What is written for rows: a table map with this header and body, and the event that undoes the rows, which have this header.
abbrev pub undone_parts : BinlogEventHeader → List ℕ → BinlogEventHeader → InverseEvent → List Event
undone_parts map_header map_body header inverse =
    record { heading = source_heading map_header; event_type = TABLE_MAP_EVENT; body = map_body }
    ∷ record { heading = source_heading header; event_type = inverse.event_type; body = inverse.body.items } ∷ []

-- Of these events.
abbrev pub undone_events : (map_event event : EventView) → InverseEvent → List Event
undone_events map_event event inverse = undone_parts (header_of map_event.frame) (data_of map_event.fde.footer map_event.frame) (header_of event.frame) inverse

-- These events undo rows, of the table of this table map. The description states how rows of the written type are read.
pub record UndoesRows (checks : ForeignKeyChecks) (map_event : EventView) (map : TableMapEvent) (event : EventView) (rows : RowsEventData) (events : List Event) : Type 0 where
  pub is_maria_log : Bool
  pub maria : IsMariaEvent event is_maria_log
  pub inverse : InverseEvent
  pub undoes : UndoesTable is_maria_log checks map rows inverse
  pub length : has_rows_length event.fde inverse.event_type ≡ true
  pub are : events ≡ undone_events map_event event inverse

-- What was read of the body of an event that was compressed are rows of the table of this table map.
pub record UndoesReadEvent (checks : ForeignKeyChecks) (map_event : EventView) (map : TableMapEvent) (event : EventView) (read : Result (Option EventData) Error) (events : List Event) : Type 0 where
  pub rows : RowsEventData
  pub is : read ≡ Ok (Some (mysql.RowsEvent rows))
  pub undoes : UndoesRows checks map_event map event rows events

-- This body is read so.
pub record UndoesBody (checks : ForeignKeyChecks) (map_event : EventView) (map : TableMapEvent) (event : EventView) (body : List ℕ) (events : List Event) : Type 0 where
  pub rows : RowsEventData
  pub read : ReadsUncompressed event body (Ok (Some (mysql.RowsEvent rows)))
  pub undoes : UndoesRows checks map_event map event rows events

-- Compressed rows are those of the table of this table map.
pub record UndoesCompressed (checks : ForeignKeyChecks) (map_event : EventView) (map : TableMapEvent) (event : EventView) (compressed : RowsCompressedEvent) (events : List Event) : Type 0 where
  pub rows : RowsEventData
  pub are : HasCompressedRows event compressed rows
  pub undoes : UndoesRows checks map_event map event rows events

-- What was read of an event are rows of the table of this table map, as they are or compressed.
pub record UndoesReadRows (checks : ForeignKeyChecks) (map_event : EventView) (map : TableMapEvent) (event : EventView) (read : Result (Option LogEventData) Error) (events : List Event) : Type 0 where
  pub rows : RowsEventData
  pub are : IsReadAsRows event read rows
  pub undoes : UndoesRows checks map_event map event rows events

-- An event is read as rows of the table of this table map.
pub record UndoesMapped (checks : ForeignKeyChecks) (map_event : EventView) (map : TableMapEvent) (event : EventView) (events : List Event) : Type 0 where
  pub rows : RowsEventData
  pub read : ReadsRows event rows
  pub undoes : UndoesRows checks map_event map event rows events

-- The event is read as this table map.
abbrev pub ReadsMap : EventView → TableMapEvent → Type 0
ReadsMap event map = ReadsEventData event (Ok (Some (mysql.TableMapEvent map)))

-- The two events are read as a table map and rows.
pub record UndoesEvents (checks : ForeignKeyChecks) (map_event event : EventView) (events : List Event) : Type 0 where
  pub map : TableMapEvent
  pub read : ReadsMap map_event map
  pub undoes : UndoesMapped checks map_event map event events

-- A CRC-32 of the checksummed bytes of an event. An algorithm's number is among them for a description.
abbrev pub IsChecksumOf : EventView → ℕ → Type 0
IsChecksumOf event checksum = (algorithm : ℕ) × (checksum ≡ crc32 (checksummed algorithm event.fde.footer event.frame))

-- The checksum of an event, if one is due, is that.
abbrev pub HasRightChecksum : EventView → Type 0
HasRightChecksum event = IfSome (checksum_of event.fde.footer event.frame) (λ stored. (checksum : ℕ) × IsChecksumOf event checksum × (stored ≡ little_bytes 4 checksum))

-- The event of the frame at a place, under this description, with its checksum verified.
pub record IsEventAt (is_at : FramesOf) (fde : FormatDescriptionEvent) (place : ℕ) (event : EventView) : Type 0 where
  pub frame : List ℕ
  pub at : is_at place frame
  pub is : event_at fde frame ≡ Some event
  pub right : HasRightChecksum event

-- These undo the row event at a place, whose table map is at its place.
pub record UndoesChange (is_at : FramesOf) (fde : FormatDescriptionEvent) (checks : ForeignKeyChecks) (change : ChangePlace) (events : List Event) : Type 0 where
  pub map_event : EventView
  pub map_at : IsEventAt is_at fde change.table_map map_event
  pub event : EventView
  pub event_at : IsEventAt is_at fde change.rows event
  pub undoes : UndoesEvents checks map_event event events

-- The last row event is undone first.
abbrev pub UndoesChanges : FramesOf → FormatDescriptionEvent → ForeignKeyChecks → List ChangePlace → List Event → Type 0
UndoesChanges is_at fde checks [] events = events ≡ []
UndoesChanges is_at fde checks (change ∷ changes) events =
    (front : List Event) × (own : List Event) × UndoesChanges is_at fde checks changes front × UndoesChange is_at fde checks change own × (events ≡ front ++ own)

-- ---- a transaction

-- Row events in the content of an event are undone.
abbrev pub UndoesInside : ForeignKeyChecks → EventView → List ChangePlace → List Event → Type 0
UndoesInside checks event changes events = InContent (λ (among : FramesOf) (d : FormatDescriptionEvent). UndoesChanges among d checks changes events) event

-- The row events of a transaction with this last event are undone, at their places in its file or in its content.
abbrev pub UndoesOwn : FramesOf → FormatDescriptionEvent → ForeignKeyChecks → EventView → List ChangePlace → List Event → Type 0
UndoesOwn is_at fde checks event changes events = AtPlaces (λ (among : FramesOf) (d : FormatDescriptionEvent). UndoesChanges among d checks changes events) is_at fde event

-- The number of an XID event, and 0 for any other event.
abbrev pub ReadsXid : EventView → ℕ → Type 0
ReadsXid event xid =
    ((header_of event.frame).event_type ≡ 16) × ((body : XidEvent) × ReadsEventData event (Ok (Some (mysql.XidEvent body))) × (xid ≡ body.xid))
    ⊎ (((header_of event.frame).event_type ≢ 16) × (xid ≡ 0))

abbrev pub begin_event : BinlogEventHeader → Event
begin_event last = record { heading = begin_heading last; event_type = QUERY_EVENT; body = begin_body }

abbrev pub commit_event : BinlogEventHeader → ℕ → Event
commit_event last xid = record { heading = commit_heading last; event_type = XID_EVENT; body = xid_body xid }

-- A BEGIN, what undoes the row events, and an XID, by the transaction's last event.
pub record UndoesTransaction (is_at : FramesOf) (fde : FormatDescriptionEvent) (checks : ForeignKeyChecks) (last : ℕ) (changes : List ChangePlace) (events : List Event) : Type 0 where
  pub event : EventView
  pub event_at : IsEventAt is_at fde last event
  pub xid : ℕ
  pub reads : ReadsXid event xid
  pub undone : List Event
  pub undoes : UndoesOwn is_at fde checks event changes undone
  pub are : events ≡ begin_event (header_of event.frame) ∷ undone ++ commit_event (header_of event.frame) xid ∷ []

-- ---- all transactions

-- The last transaction is undone first. The changes are those of the transactions, one after the other, of each as many as it states.
abbrev pub UndoesAll : FramesOf → FormatDescriptionEvent → ForeignKeyChecks → List TransactionPlace → List ChangePlace → List Event → Type 0
UndoesAll is_at fde checks [] changes events = (changes ≡ []) × (events ≡ [])
UndoesAll is_at fde checks (transaction ∷ transactions) changes events =
    (own : List ChangePlace) × (others : List ChangePlace) × (front : List Event) × (undone : List Event)
    × (changes ≡ own ++ others) × (length own ≡ transaction.changes) × UndoesAll is_at fde checks transactions others front
    × UndoesTransaction is_at fde checks transaction.last own undone × (events ≡ front ++ undone)

-- The same of transactions with their row events.
abbrev pub UndoesKept : FramesOf → FormatDescriptionEvent → ForeignKeyChecks → List Kept → List Event → Type 0
UndoesKept is_at fde checks [] events = events ≡ []
UndoesKept is_at fde checks (kept ∷ others) events =
    (front : List Event) × (undone : List Event) × UndoesKept is_at fde checks others front × UndoesTransaction is_at fde checks kept.last kept.changes undone
    × (events ≡ front ++ undone)
