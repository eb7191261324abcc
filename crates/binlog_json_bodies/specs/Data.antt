-- The `data` member of an event.
use Rattle.std.specs.Prelude.{ℕ, Bool, List, [], ◌∷◌, codes, Result, Ok, Err}
use Rattle.json.specs.Token.{Token, begin_object, end_object, null, string}
use Rattle.binlog_file.specs.Reading.{Read, Refusal, ends, invalid, other_type}
use Rattle.binlog_file.specs.declared.EventType.{EventType}
use Rattle.binlog_file.specs.declared.UnknownEventType.{UnknownEventType}
use Rattle.binlog_file.specs.declared.FormatDescriptionEvent.{FormatDescriptionEvent}
use Rattle.binlog_file.specs.ReadData.{data_read}
use Rattle.binlog_file.specs.declared.EventData.{EventData}
use Rattle.binlog_file.specs.declared.EventData.TheVariants as variants
use Rattle.json_line.specs.Tokens.{number_value, bytes_value, member, object}
use Rattle.binlog_event_types.specs.MysqlNames.{type_name}
use Rattle.binlog_json_bodies.specs.Bodies.{rotate_object, intvar_object, rand_object, xid_object, begin_load_query_object, incident_object, rows_query_object, description_object}
use Rattle.binlog_json_bodies.specs.ClientSets.{is_of_maria}
use Rattle.binlog_json_bodies.specs.Statements.{query_object, execute_load_query_object, user_var_object}
use Rattle.binlog_json_bodies.specs.Gtids.{gtid_object, previous_gtids_object}
use Rattle.binlog_json_bodies.specs.Rows.{table_map_object, rows_object, short_rows_object}

-- The object of data without a body.
abbrev pub empty_object : List Token
empty_object = begin_object ∷ end_object ∷ []

-- The object of a body that isn't parsed.
abbrev pub raw_object : List ℕ → List Token
raw_object bytes = object (member (codes "raw") (bytes_value bytes))

-- An object with an error number, in place of a value.
abbrev pub error_object : ℕ → List Token
error_object n = object (member (codes "error") (number_value n))

-- The object of event data in a log that MariaDB wrote, or MySQL.
abbrev pub data_object : (is_maria : Bool) → EventData → List Token
data_object is_maria variants.UnknownEvent = empty_object
data_object is_maria (variants.StartEventV3 s) = raw_object s
data_object is_maria (variants.QueryEvent e) = query_object is_maria e
data_object is_maria variants.StopEvent = empty_object
data_object is_maria (variants.RotateEvent e) = rotate_object e
data_object is_maria (variants.IntvarEvent e) = intvar_object e
data_object is_maria (variants.LoadEvent s) = raw_object s
data_object is_maria variants.SlaveEvent = empty_object
data_object is_maria (variants.CreateFileEvent s) = raw_object s
data_object is_maria (variants.AppendBlockEvent s) = raw_object s
data_object is_maria (variants.ExecLoadEvent s) = raw_object s
data_object is_maria (variants.DeleteFileEvent s) = raw_object s
data_object is_maria (variants.NewLoadEvent s) = raw_object s
data_object is_maria (variants.RandEvent e) = rand_object e
data_object is_maria (variants.UserVarEvent e) = user_var_object e
data_object is_maria (variants.FormatDescriptionEvent e) = description_object e
data_object is_maria (variants.XidEvent e) = xid_object e
data_object is_maria (variants.BeginLoadQueryEvent e) = begin_load_query_object e
data_object is_maria (variants.ExecuteLoadQueryEvent e) = execute_load_query_object is_maria e
data_object is_maria (variants.TableMapEvent e) = table_map_object e
data_object is_maria (variants.PreGaWriteRowsEvent s) = raw_object s
data_object is_maria (variants.PreGaUpdateRowsEvent s) = raw_object s
data_object is_maria (variants.PreGaDeleteRowsEvent s) = raw_object s
data_object is_maria (variants.RowsEvent e) = rows_object e
data_object is_maria (variants.IncidentEvent e) = incident_object e
data_object is_maria variants.HeartbeatEvent = empty_object
data_object is_maria (variants.IgnorableEvent s) = raw_object s
data_object is_maria (variants.RowsQueryEvent e) = rows_query_object e
data_object is_maria (variants.GtidEvent e) = gtid_object e
data_object is_maria (variants.AnonymousGtidEvent e) = gtid_object e.0
data_object is_maria (variants.PreviousGtidsEvent e) = previous_gtids_object e
data_object is_maria (variants.TransactionContextEvent s) = raw_object s
data_object is_maria (variants.ViewChangeEvent s) = raw_object s
data_object is_maria (variants.XaPrepareLogEvent s) = raw_object s
data_object is_maria (variants.TransactionPayloadEvent s) = raw_object s

-- The object of event data, that of a row event without its stored rows.
abbrev pub short_data_object : (is_maria : Bool) → EventData → List Token
short_data_object is_maria (variants.RowsEvent e) = short_rows_object e
short_data_object is_maria body = data_object is_maria body

-- The error number of a refusal.
abbrev pub refusal_number : Refusal → ℕ
refusal_number ends = 5
refusal_number (invalid why) = 6
refusal_number (other_type number) = 8

-- The object of a value that all the bytes encode, or the error number.
abbrev pub read_value : (is_maria : Bool) → Read EventData → List Token
read_value is_maria (Ok (v, [])) = data_object is_maria v
read_value is_maria (Ok (v, b ∷ rest)) = error_object 7
read_value is_maria (Err why) = error_object (refusal_number why)

-- The same with the object that has no stored rows.
abbrev pub short_read_value : (is_maria : Bool) → Read EventData → List Token
short_read_value is_maria (Ok (v, [])) = short_data_object is_maria v
short_read_value is_maria (Ok (v, b ∷ rest)) = error_object 7
short_read_value is_maria (Err why) = error_object (refusal_number why)

-- The name of an event type; null for an unknown type.
abbrev pub name_value : Result EventType UnknownEventType → List Token
name_value (Err unknown) = null ∷ []
name_value (Ok type) = string (type_name type) ∷ []

-- The data of this type, under a description; null for an unknown type.
abbrev pub data_value : FormatDescriptionEvent → List ℕ → Result EventType UnknownEventType → List Token
data_value d s (Err unknown) = null ∷ []
data_value d s (Ok type) = read_value (is_of_maria d) (data_read d s type)

-- The same, that of a row event without its stored rows.
abbrev pub short_data_value : FormatDescriptionEvent → List ℕ → Result EventType UnknownEventType → List Token
short_data_value d s (Err unknown) = null ∷ []
short_data_value d s (Ok type) = short_read_value (is_of_maria d) (data_read d s type)
