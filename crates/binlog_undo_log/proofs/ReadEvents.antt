-- What undoes events, by what was read of them.
use Rattle.std.proofs.Common.{◌≡◌, inl, inr, ℕ, List, Option, Some, Result, Ok, Err, OnOk, IfOk, subst, sym}
use Rattle.binlog_event_data.specs.declared.event_data.EventData.{EventData}
use Rattle.binlog_event_data.specs.declared.event_data.EventData.TheVariants as mysql
use Rattle.binlog_file.specs.LogData.{ReadsLogData}
use Rattle.binlog_file.specs.declared.log_data.LogEventData.{LogEventData}
use Rattle.binlog_file.specs.declared.log_data.LogEventData.TheVariants.{Mysql, Maria}
use Rattle.binlog_mariadb.specs.declared.compressed_rows.RowsCompressedEvent.{RowsCompressedEvent}
use Rattle.binlog_mariadb.specs.declared.event_data.MariaEventData.TheVariants as maria
use Rattle.binlog_rows.specs.declared.rows_event_data.RowsEventData.{RowsEventData}
use Rattle.binlog_undo_log.specs.Compressed.{IsUncompressed, ReadsUncompressed}
use Rattle.binlog_event_format.specs.declared.format_description.FormatDescriptionEvent.{FormatDescriptionEvent}
use Rattle.binlog_events.specs.Events.{EventView, event_at}
use Rattle.binlog_rows.specs.declared.table_map_event.TableMapEvent.{TableMapEvent}
use Rattle.binlog_undo.specs.declared.inverse_event.ForeignKeyChecks.{ForeignKeyChecks}
use Rattle.binlog_undo_index.specs.declared.places.ChangePlace.{ChangePlace}
use Rattle.binlog_undo.specs.declared.events_writer.EventsWriter.{EventsWriter}
use Rattle.binlog_undo_log.specs.Places.{FramesOf}
use Rattle.binlog_undo_log.specs.Undoing.{IsEventAt, HasRightChecksum, Writes, UndoesRows, UndoesReadEvent, UndoesBody, UndoesCompressed, UndoesReadRows, UndoesMapped, ReadsMap, UndoesEvents, UndoesChange}
use Rattle.binlog_undo_log.specs.declared.undo_error.UndoLogError.{UndoLogError}
use Rattle.binlog_wire.specs.declared.error.Error.{Error}

pub mapped_if : (answer : Result (Unit {0}) UndoLogError) (checks : ForeignKeyChecks) (map_event : EventView) (map : TableMapEvent) (event : EventView)
    (read : Result (Option LogEventData) Error) (old new : EventsWriter) → ReadsLogData event read → OnOk answer (Writes (UndoesReadRows checks map_event map event read) old new)
    → OnOk answer (Writes (UndoesMapped checks map_event map event) old new)
mapped_if (Ok done) checks map_event map event read old new reads h =
    (h.0, record { rows = h.1.rows; read = record { read = read; reads = reads; are = h.1.are }; undoes = h.1.undoes }, h.2)
mapped_if (Err error) checks map_event map event read old new reads h = tt

-- Of a body that was compressed.
pub body_if : (answer : Result (Unit {0}) UndoLogError) (checks : ForeignKeyChecks) (map_event : EventView) (map : TableMapEvent) (event : EventView) (body : List ℕ)
    (read : Result (Option EventData) Error) (old new : EventsWriter) → ReadsUncompressed event body read → OnOk answer (Writes (UndoesReadEvent checks map_event map event read) old new)
    → OnOk answer (Writes (UndoesBody checks map_event map event body) old new)
body_if (Ok done) checks map_event map event body read old new reads h =
    (h.0, record { rows = h.1.rows; read = subst (λ (r : Result (Option EventData) Error). ReadsUncompressed event body r) h.1.is reads; undoes = h.1.undoes }, h.2)
body_if (Err error) checks map_event map event body read old new reads h = tt

-- Of compressed rows.
pub compressed_if : (answer : Result (Unit {0}) UndoLogError) (checks : ForeignKeyChecks) (map_event : EventView) (map : TableMapEvent) (event : EventView)
    (compressed : RowsCompressedEvent) (items body : List ℕ) (old new : EventsWriter) → body ≡ items → IsUncompressed event compressed items
    → OnOk answer (Writes (UndoesBody checks map_event map event body) old new) → OnOk answer (Writes (UndoesCompressed checks map_event map event compressed) old new)
compressed_if (Ok done) checks map_event map event compressed items body old new same is h =
    let is_body : IsUncompressed event compressed body = subst (λ (s : List ℕ). IsUncompressed event compressed s) (sym same) is in
    (h.0, record { rows = h.1.rows; are = record { body = body; is = is_body; read = h.1.read }; undoes = h.1.undoes }, h.2)
compressed_if (Err error) checks map_event map event compressed items body old new same is h = tt

-- What was read of an event are compressed rows.
pub read_compressed_if : (answer : Result (Unit {0}) UndoLogError) (checks : ForeignKeyChecks) (map_event : EventView) (map : TableMapEvent) (event : EventView)
    (read : Result (Option LogEventData) Error) (compressed : RowsCompressedEvent) (old new : EventsWriter) → read ≡ Ok (Some (Maria (maria.RowsCompressedEvent compressed)))
    → OnOk answer (Writes (UndoesCompressed checks map_event map event compressed) old new) → OnOk answer (Writes (UndoesReadRows checks map_event map event read) old new)
read_compressed_if (Ok done) checks map_event map event read compressed old new is h =
    (h.0, record { rows = h.1.rows; are = inr (compressed, is, h.1.are); undoes = h.1.undoes }, h.2)
read_compressed_if (Err error) checks map_event map event read compressed old new is h = tt

-- They are rows as they are.
pub read_rows_if : (answer : Result (Unit {0}) UndoLogError) (checks : ForeignKeyChecks) (map_event : EventView) (map : TableMapEvent) (event : EventView)
    (read : Result (Option LogEventData) Error) (rows : RowsEventData) (old new : EventsWriter) → read ≡ Ok (Some (Mysql (mysql.RowsEvent rows)))
    → OnOk answer (Writes (UndoesRows checks map_event map event rows) old new) → OnOk answer (Writes (UndoesReadRows checks map_event map event read) old new)
read_rows_if (Ok done) checks map_event map event read rows old new is h = (h.0, record { rows = rows; are = inl is; undoes = h.1 }, h.2)
read_rows_if (Err error) checks map_event map event read rows old new is h = tt

-- The body of an event that was compressed was read as rows.
pub read_event_if : (answer : Result (Unit {0}) UndoLogError) (checks : ForeignKeyChecks) (map_event : EventView) (map : TableMapEvent) (event : EventView)
    (read : Result (Option EventData) Error) (rows : RowsEventData) (old new : EventsWriter) → read ≡ Ok (Some (mysql.RowsEvent rows))
    → OnOk answer (Writes (UndoesRows checks map_event map event rows) old new) → OnOk answer (Writes (UndoesReadEvent checks map_event map event read) old new)
read_event_if (Ok done) checks map_event map event read rows old new is h = (h.0, record { rows = rows; is = is; undoes = h.1 }, h.2)
read_event_if (Err error) checks map_event map event read rows old new is h = tt

-- An event was read as a table map.
pub events_if : (answer : Result (Unit {0}) UndoLogError) (checks : ForeignKeyChecks) (map_event : EventView) (event : EventView)
    (map : TableMapEvent) (old new : EventsWriter) → ReadsMap map_event map → OnOk answer (Writes (UndoesMapped checks map_event map event) old new)
    → OnOk answer (Writes (UndoesEvents checks map_event event) old new)
events_if (Ok done) checks map_event event map old new reads h = (h.0, record { map = map; read = reads; undoes = h.1 }, h.2)
events_if (Err error) checks map_event event map old new reads h = tt

pub change_if : (answer : Result (Unit {0}) UndoLogError) (is_at now : FramesOf) (fde : FormatDescriptionEvent) (checks : ForeignKeyChecks) (change : ChangePlace)
    (map_frame frame : List ℕ) (map_event event : EventView) (old new : EventsWriter) → ((place : ℕ) (s : List ℕ) → now place s → is_at place s)
    → is_at change.table_map map_frame → now change.rows frame → event_at fde map_frame ≡ Some map_event → HasRightChecksum map_event → event_at fde frame ≡ Some event
    → HasRightChecksum event → OnOk answer (Writes (UndoesEvents checks map_event event) old new) → OnOk answer (Writes (UndoesChange is_at fde checks change) old new)
change_if (Ok done) is_at now fde checks change map_frame frame map_event event old new among map_at at map_is map_right is right h =
    let map_there : IsEventAt is_at fde change.table_map map_event = record { frame = map_frame; at = map_at; is = map_is; right = map_right } in
    let there : IsEventAt is_at fde change.rows event = record { frame = frame; at = among change.rows frame at; is = is; right = right } in
    (h.0, record { map_event = map_event; map_at = map_there; event = event; event_at = there; undoes = h.1 }, h.2)
change_if (Err error) is_at now fde checks change map_frame frame map_event event old new among map_at at map_is map_right is right h = tt

pub if_ok : {A E : Type 0} (P Q : A → Type 0) (answer : Result A E) → ((x : A) → P x → Q x) → IfOk answer P → IfOk answer Q
if_ok P Q (Ok x) to h = to x h
if_ok P Q (Err error) to h = tt
