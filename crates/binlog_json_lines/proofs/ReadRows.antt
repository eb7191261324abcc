-- The row event that was read of the data of an event.
use Rattle.std.proofs.Common.{◌≡◌, ℕ, Bool, true, false, List, [], ◌∷◌, cond, Option, None, Some, Result, Ok, Err, sym, ap}
use Rattle.binlog_wire.specs.Reading.{Read}
use Rattle.binlog_wire.specs.declared.error.Error.{Error}
use Rattle.binlog_consts.specs.EventTypes.{event_type_of}
use Rattle.binlog_consts.specs.declared.event_type.EventType.{EventType}
use Rattle.binlog_consts.specs.declared.event_type.UnknownEventType.{UnknownEventType}
use Rattle.binlog_event_format.specs.Headers.{header_of}
use Rattle.binlog_event_format.specs.declared.format_description.FormatDescriptionEvent.{FormatDescriptionEvent}
use Rattle.binlog_events.specs.Events.{EventView}
use Rattle.binlog_events.specs.Parts.{data_of}
use Rattle.binlog_event_data.specs.ReadData.{data_read, ReadsData}
use Rattle.binlog_event_data.specs.declared.event_data.EventData.{EventData}
use Rattle.binlog_event_data.specs.declared.event_data.EventData.TheVariants.{RowsEvent}
use Rattle.binlog_rows.specs.declared.rows_event_data.RowsEventData.{RowsEventData}
use Rattle.binlog_filters.specs.RowEvents.{is_rows_type, is_of_rows, rows_in, rows_read, rows_event_in, rows_event_of}
use Rattle.binlog_filters.proofs.RowsRead.{read_some, read_none, read_error}
use Rattle.binlog_json_bodies.specs.ClientSets.{is_of_maria}
use Rattle.binlog_json_bodies.specs.Data.{data_object, short_data_object, read_value, short_read_value, data_value, short_data_value}
use Rattle.binlog_json_bodies.specs.Rows.{rows_object, short_rows_object, row_event_object}
use Rattle.binlog_json_lines.specs.ItemLines.{event_data}
use Rattle.binlog_json_lines.specs.ReadRows.{rows_of_read}

-- By any result of reading.
pub of_read : (d : FormatDescriptionEvent) (number : ℕ) (s : List ℕ) (read : Result (Option EventData) Error) → is_of_rows (event_type_of number) ≡ true → ReadsData d number s read
    → rows_of_read read ≡ rows_event_in d s (event_type_of number)
of_read d number s (Ok (Some body)) rows reads = sym (read_some d number s body rows reads)
of_read d number s (Ok None) rows reads = sym (read_none d number s rows reads)
of_read d number s (Err error) rows reads = sym (read_error d number s error rows reads)

-- ---- its object

of_body : (is_maria : Bool) (content : EventData) (body : RowsEventData) → rows_in content ≡ Some body
    → (data_object is_maria content ≡ rows_object body) × (short_data_object is_maria content ≡ short_rows_object body)
of_body is_maria (RowsEvent event) body is = let same : event ≡ body = cc in (ap rows_object same, ap short_rows_object same)
of_body is_maria content body is = absurd cc

of_reading : (is_maria : Bool) (read : Read EventData) (body : RowsEventData) → rows_read read ≡ Some body
    → (read_value is_maria read ≡ rows_object body) × (short_read_value is_maria read ≡ short_rows_object body)
of_reading is_maria (Ok (content, [])) body is = of_body is_maria content body is
of_reading is_maria (Ok (content, b ∷ rest)) body is = absurd cc
of_reading is_maria (Err why) body is = absurd cc

some_if : {A : Type 0} (b : Bool) (found : Option A) (x : A) → cond b found None ≡ Some x → found ≡ Some x
some_if true found x is = is
some_if false found x is = absurd cc

of_type : (d : FormatDescriptionEvent) (s : List ℕ) (type : Result EventType UnknownEventType) (body : RowsEventData) → rows_event_in d s type ≡ Some body
    → (data_value d s type ≡ rows_object body) × (short_data_value d s type ≡ short_rows_object body)
of_type d s (Err unknown) body is = absurd cc
of_type d s (Ok type) body is = of_reading (is_of_maria d) (data_read d s type) body (some_if (is_rows_type type) (rows_read (data_read d s type)) body is)

-- The data of a row event are its object.
pub data_of_rows : (has_stored_rows : Bool) (event : EventView) (body : RowsEventData) → rows_event_of event ≡ Some body → event_data has_stored_rows event ≡ row_event_object has_stored_rows body
data_of_rows true event body is = (of_type event.fde (data_of event.fde.footer event.frame) (event_type_of (header_of event.frame).event_type) body is).0
data_of_rows false event body is = (of_type event.fde (data_of event.fde.footer event.frame) (event_type_of (header_of event.frame).event_type) body is).1
