-- The body of each of MariaDB's own event types, and the results of reading one.
use Rattle.std.proofs.Common.{◌≡◌, ◌↔◌, ℕ, Bool, true, false, List, [], Option, Some, None, Result, Ok, Err, refl, ap, sym, subst}
use Rattle.std.specs.Prelude.{⊤}
use Rattle.binlog_wire.specs.Formats.{Format, last}
use Rattle.binlog_wire.specs.Fields.{IsBytes}
use Rattle.binlog_wire.specs.Reading.{Read, read_as}
use Rattle.binlog_wire.specs.declared.error.Error.{Error}
use Rattle.binlog_consts.specs.declared.event_type.EventType.{EventType}
use Rattle.binlog_consts.specs.declared.event_type.EventType.TheVariants as mysql
use Rattle.binlog_event_format.specs.Bodies.{GivesWhole}
use Rattle.binlog_event_format.specs.PostHeaders.{post_header}
use Rattle.binlog_event_format.specs.declared.format_description.FormatDescriptionEvent.{FormatDescriptionEvent}
use Rattle.binlog_statements.specs.Query.{query}
use Rattle.binlog_rows.specs.Rows.{rows}
use Rattle.binlog_rows.specs.RowsData.{data_written}
use Rattle.binlog_rows.specs.declared.rows_event.RowsEvent.{RowsEvent}
use Rattle.binlog_rows.specs.declared.rows_event_data.RowsEventData.{RowsEventData}
use Rattle.binlog_rows.specs.declared.rows_event_data.RowsEventData.TheVariants as kinds
use Rattle.binlog_mariadb.specs.EventTypes.{maria_event_type_of}
use Rattle.binlog_mariadb.specs.AnnotateRows.{annotate_rows}
use Rattle.binlog_mariadb.specs.BinlogCheckpoint.{binlog_checkpoint}
use Rattle.binlog_mariadb.specs.StartEncryption.{start_encryption}
use Rattle.binlog_mariadb.specs.Gtids.{maria_gtid}
use Rattle.binlog_mariadb.specs.GtidLists.{gtid_list, list_written, unwritable_list}
use Rattle.binlog_mariadb.specs.declared.event_type.MariaEventType.{MariaEventType}
use Rattle.binlog_mariadb.specs.declared.event_type.MariaEventType.TheVariants as types
use Rattle.binlog_mariadb.specs.declared.event_type.UnknownMariaEventType.{UnknownMariaEventType}
use Rattle.binlog_mariadb.specs.declared.event_data.MariaEventData.{MariaEventData}
use Rattle.binlog_mariadb.specs.declared.event_data.MariaEventData.TheVariants as variants

-- A body: its format, and how its value becomes event data.
pub data Body : Type 1 where
  body : {V : Type 0} → Format last V → (V → MariaEventData) → Body

-- The result of reading the bytes of a body.
abbrev pub reads_in : Body → List ℕ → Read MariaEventData
reads_in (body format data_of) s = read_as data_of (format.reads s)

-- All of the bytes encode this event data.
abbrev pub StandsIn : Body → List ℕ → MariaEventData → Type 0
StandsIn (body {V} format data_of) s event = (v : V) × (event ≡ data_of v) × format.spells s v []

-- The body of a compressed row event. `has_extra`, `has_before` and `has_after` say whether the uncompressed type has
-- extra bytes, a before-image and an after-image. The rows are the stored bytes.
abbrev rows_of : Bool → Bool → Bool → FormatDescriptionEvent → EventType → (RowsEvent → RowsEventData) → Body
rows_of has_extra has_before has_after d type kind =
    body (rows (record { has_extra = has_extra; has_before = has_before; has_after = has_after }) (post_header d type)) (λ e. variants.RowsCompressedEvent (record { event = kind e }))

-- The body of an event type under a description. A compressed event has the body of the uncompressed type, with the
-- stored bytes in place of the statement or the rows.
abbrev pub body_of : MariaEventType → FormatDescriptionEvent → Body
body_of types.ANNOTATE_ROWS_EVENT d = body annotate_rows variants.AnnotateRowsEvent
body_of types.BINLOG_CHECKPOINT_EVENT d = body binlog_checkpoint variants.BinlogCheckpointEvent
body_of types.GTID_EVENT d = body maria_gtid variants.GtidEvent
body_of types.GTID_LIST_EVENT d = body gtid_list variants.GtidListEvent
body_of types.START_ENCRYPTION_EVENT d = body start_encryption variants.StartEncryptionEvent
body_of types.QUERY_COMPRESSED_EVENT d = body (query (post_header d mysql.QUERY_EVENT)) variants.QueryCompressedEvent
body_of types.WRITE_ROWS_COMPRESSED_EVENT_V1 d = rows_of false false true d mysql.WRITE_ROWS_EVENT_V1 kinds.WriteRowsEventV1
body_of types.UPDATE_ROWS_COMPRESSED_EVENT_V1 d = rows_of false true true d mysql.UPDATE_ROWS_EVENT_V1 kinds.UpdateRowsEventV1
body_of types.DELETE_ROWS_COMPRESSED_EVENT_V1 d = rows_of false true false d mysql.DELETE_ROWS_EVENT_V1 kinds.DeleteRowsEventV1
body_of types.WRITE_ROWS_COMPRESSED_EVENT d = rows_of true false true d mysql.WRITE_ROWS_EVENT kinds.WriteRowsEvent
body_of types.UPDATE_ROWS_COMPRESSED_EVENT d = rows_of true true true d mysql.UPDATE_ROWS_EVENT kinds.UpdateRowsEvent
body_of types.DELETE_ROWS_COMPRESSED_EVENT d = rows_of true true false d mysql.DELETE_ROWS_EVENT kinds.DeleteRowsEvent

-- The types whose reading allocates.
abbrev pub TakesMemory : MariaEventType → Type 0
TakesMemory types.GTID_LIST_EVENT = ⊤
TakesMemory _ = ⊥

-- The result of reading bytes as the body of this type.
abbrev pub data_read : FormatDescriptionEvent → List ℕ → MariaEventType → Read MariaEventData
data_read d s type = reads_in (body_of type d) s

-- The result of reading the data of an event: None for another type; otherwise the data that the body encodes, or why
-- it encodes none.
abbrev pub ReadsAs : FormatDescriptionEvent → List ℕ → Result MariaEventType UnknownMariaEventType → Result (Option MariaEventData) Error → Type 0
ReadsAs d s (Err unknown) answer = answer ≡ Ok None
ReadsAs d s (Ok type) (Ok None) = ⊥
ReadsAs d s (Ok type) (Ok (Some event)) = GivesWhole (TakesMemory type) (Ok event) (data_read d s type)
ReadsAs d s (Ok type) (Err error) = GivesWhole (TakesMemory type) (Err error) (data_read d s type)

-- The same, by the raw type of the event.
abbrev pub ReadsMariaData : FormatDescriptionEvent → ℕ → List ℕ → Result (Option MariaEventData) Error → Type 0
ReadsMariaData d number s answer = (type : Result MariaEventType UnknownMariaEventType) × (type ≡ maria_event_type_of number) × ReadsAs d s type answer

-- ---- what is written

-- The written body.
abbrev pub event_written : MariaEventData → List ℕ
event_written (variants.AnnotateRowsEvent e) = annotate_rows.written e
event_written (variants.BinlogCheckpointEvent e) = binlog_checkpoint.written e
event_written (variants.GtidEvent e) = maria_gtid.written e
event_written (variants.GtidListEvent e) = list_written e
event_written (variants.StartEncryptionEvent e) = start_encryption.written e
event_written (variants.QueryCompressedEvent e) = (query 13).written e
event_written (variants.RowsCompressedEvent e) = data_written e.event

-- Why event data can't be written, if it can't.
abbrev pub unwritable_data : MariaEventData → Option Error
unwritable_data (variants.GtidListEvent e) = unwritable_list e
unwritable_data _ = None

-- ---- reading gives exactly what the bytes encode

-- The value that was read, with no bytes after it.
from_read : {V : Type 0} (format : Format last V) (data_of : V → MariaEventData) (s : List ℕ) (event : MariaEventData) → IsBytes s
    → (x : Read V) → format.reads s ≡ x → read_as data_of x ≡ Ok (event, []) → (v : V) × (event ≡ data_of v) × format.spells s v []
from_read format data_of s event bytes (Ok x) e h =
    let both : ◌≡◌ {A = MariaEventData × List ℕ} (data_of x.0, x.1) (event, []) = cc in (
      x.0,
      sym (ap (λ (p : MariaEventData × List ℕ). p.0) both),
      subst (λ (r : List ℕ). format.spells s x.0 r) (ap (λ (p : MariaEventData × List ℕ). p.1) both) (format.keeps.sound s x bytes e).0,
    )
from_read format data_of s event bytes (Err why) e h = absurd cc

to_read : {V : Type 0} (format : Format last V) (data_of : V → MariaEventData) (s : List ℕ) (event : MariaEventData)
    → (v : V) × (event ≡ data_of v) × format.spells s v [] → read_as data_of (format.reads s) ≡ Ok (event, [])
to_read format data_of s event (v, same, spells) =
    rw (format.keeps.complete s v [] spells) (ap (λ (e : MariaEventData). Ok (e, [])) (sym same))

-- Event data is read exactly if the bytes encode it.
pub read_where_it_stands : (b : Body) (s : List ℕ) (event : MariaEventData) → IsBytes s → (reads_in b s ≡ Ok (event, [])) ↔ StandsIn b s event
read_where_it_stands (body format data_of) s event bytes = (from_read format data_of s event bytes (format.reads s) refl, to_read format data_of s event)
