-- Which events are row events.
use Rattle.std.specs.Prelude.{ℕ, Bool, true, false, List, [], ◌∷◌, Option, None, Some, option_map, Result, Ok, Err, if◌then◌else◌}
use Rattle.binlog_wire.specs.Reading.{Read}
use Rattle.binlog_consts.specs.EventTypes.{event_type_of}
use Rattle.binlog_consts.specs.declared.event_type.EventType.{EventType}
use Rattle.binlog_consts.specs.declared.event_type.EventType.TheVariants.{WRITE_ROWS_EVENT_V1, UPDATE_ROWS_EVENT_V1, DELETE_ROWS_EVENT_V1, WRITE_ROWS_EVENT, UPDATE_ROWS_EVENT, DELETE_ROWS_EVENT, PARTIAL_UPDATE_ROWS_EVENT}
use Rattle.binlog_consts.specs.declared.event_type.UnknownEventType.{UnknownEventType}
use Rattle.binlog_event_format.specs.Headers.{header_of}
use Rattle.binlog_event_format.specs.declared.format_description.FormatDescriptionEvent.{FormatDescriptionEvent}
use Rattle.binlog_file.specs.Events.{EventView}
use Rattle.binlog_file.specs.Parts.{data_of}
use Rattle.binlog_event_data.specs.ReadData.{data_read}
use Rattle.binlog_event_data.specs.declared.event_data.EventData.{EventData}
use Rattle.binlog_event_data.specs.declared.event_data.EventData.TheVariants.{RowsEvent}
use Rattle.binlog_rows.specs.RowsData.{event_in}
use Rattle.binlog_rows.specs.declared.rows_event_data.RowsEventData.{RowsEventData}

-- The types of row events.
abbrev pub is_rows_type : EventType → Bool
is_rows_type WRITE_ROWS_EVENT_V1 = true
is_rows_type UPDATE_ROWS_EVENT_V1 = true
is_rows_type DELETE_ROWS_EVENT_V1 = true
is_rows_type WRITE_ROWS_EVENT = true
is_rows_type UPDATE_ROWS_EVENT = true
is_rows_type DELETE_ROWS_EVENT = true
is_rows_type PARTIAL_UPDATE_ROWS_EVENT = true
is_rows_type _ = false

-- The type of an event is one of them.
abbrev pub is_of_rows : Result EventType UnknownEventType → Bool
is_of_rows (Err unknown) = false
is_of_rows (Ok type) = is_rows_type type

-- The row event that a body is.
abbrev pub rows_in : EventData → Option RowsEventData
rows_in (RowsEvent event) = Some event
rows_in _ = None

-- The same of what was read, where all bytes encode it.
abbrev pub rows_read : Read EventData → Option RowsEventData
rows_read (Ok (body, [])) = rows_in body
rows_read (Ok (body, b ∷ rest)) = None
rows_read (Err why) = None

-- The row event that these bytes are, as the data of an event of this type under a description.
abbrev pub rows_event_in : FormatDescriptionEvent → List ℕ → Result EventType UnknownEventType → Option RowsEventData
rows_event_in d s (Err unknown) = None
rows_event_in d s (Ok type) = if is_rows_type type then rows_read (data_read d s type) else None

-- The row event that the data of an event is.
abbrev pub rows_event_of : EventView → Option RowsEventData
rows_event_of event = rows_event_in event.fde (data_of event.fde.footer event.frame) (event_type_of (header_of event.frame).event_type)

-- The table id of a row event.
abbrev pub table_id_of : EventView → Option ℕ
table_id_of event = option_map (λ body. (event_in body).head.table_id) (rows_event_of event)
