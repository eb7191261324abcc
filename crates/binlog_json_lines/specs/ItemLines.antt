-- The line of an item: a JSON object.
use Rattle.std.specs.Prelude.{ℕ, Bool, true, false, List, [], ◌++◌, codes, Result, Ok, Err}
use Rattle.std.specs.Int.{w32, to_le_bytes}
use Rattle.json.specs.Print.{print}
use Rattle.json.specs.Token.{Token}
use Rattle.binlog_file.specs.declared.Error.{Error}
use Rattle.binlog_file.specs.declared.Error.TheVariants.{ChecksumMismatch}
use Rattle.binlog_file.specs.Errors.{error_number}
use Rattle.binlog_file.specs.EventTypes.{event_type_of}
use Rattle.binlog_file.specs.Headers.{header_of}
use Rattle.binlog_file.specs.declared.BinlogEventHeader.{BinlogEventHeader}
use Rattle.binlog_file.specs.Events.{EventView}
use Rattle.binlog_file.specs.Parts.{data_of, checksum_of}
use Rattle.json_line.specs.Tokens.{number_value, bytes_value, or_null, member, object}
use Rattle.binlog_json_bodies.specs.Data.{name_value, data_value, short_data_value}

-- The raw type and the type's name.
unfoldable pub type_members : ℕ → List Token
type_members type = member (codes "type") (number_value type) ++ member (codes "name") (name_value (event_type_of type))

-- The time and the server of an event.
unfoldable pub source_members : (timestamp server_id : ℕ) → List Token
source_members timestamp server_id = member (codes "timestamp") (number_value timestamp) ++ member (codes "server_id") (number_value server_id)

-- The type of an event, its time and its server, with which the fields of its header begin.
unfoldable pub origin_members : (type timestamp server_id : ℕ) → List Token
origin_members type timestamp server_id = type_members type ++ source_members timestamp server_id

-- The size of an event, the position behind it and its flags.
unfoldable pub extent_members : BinlogEventHeader → List Token
extent_members header =
    member (codes "event_size") (number_value header.event_size)
    ++ member (codes "log_pos") (number_value header.log_pos)
    ++ member (codes "flags") (number_value header.flags)

-- The other fields of the header.
unfoldable pub header_members : BinlogEventHeader → List Token
header_members header =
    member (codes "timestamp") (number_value header.timestamp)
    ++ member (codes "server_id") (number_value header.server_id)
    ++ member (codes "event_size") (number_value header.event_size)
    ++ member (codes "log_pos") (number_value header.log_pos)
    ++ member (codes "flags") (number_value header.flags)

-- The stored checksum.
unfoldable pub checksum_member : EventView → List Token
checksum_member event = member (codes "checksum") (or_null bytes_value (checksum_of event.fde.footer event.frame))

-- The members of the object of an event that state its header and its checksum.
unfoldable pub event_fields : EventView → List Token
event_fields event = type_members (header_of event.frame).event_type ++ header_members (header_of event.frame) ++ checksum_member event

-- The members of the object of an event before its data.
unfoldable pub event_head : ℕ → EventView → List Token
event_head index event = member (codes "index") (number_value index) ++ event_fields event

-- The data of an event, that of a row event with its stored rows or without them.
abbrev pub event_data : (has_stored_rows : Bool) → EventView → List Token
event_data true event = data_value event.fde (data_of event.fde.footer event.frame) (event_type_of (header_of event.frame).event_type)
event_data false event = short_data_value event.fde (data_of event.fde.footer event.frame) (event_type_of (header_of event.frame).event_type)

abbrev pub data_member : (has_stored_rows : Bool) → EventView → List Token
data_member has_stored_rows event = member (codes "data") (event_data has_stored_rows event)

-- The members of the object of an event.
unfoldable pub event_members : ℕ → EventView → List Token
event_members index event = event_head index event ++ data_member true event

-- The object of an event.
unfoldable pub event_object : ℕ → EventView → List Token
event_object index event = object (event_members index event)

-- The two checksums of a mismatch: the four stored bytes, and those that should be there.
abbrev pub mismatch_members : Error → List Token
mismatch_members (ChecksumMismatch stored computed) = member (codes "stored") (bytes_value (to_le_bytes w32 stored)) ++ member (codes "computed") (bytes_value (to_le_bytes w32 computed))
mismatch_members error = []

-- The object of an error.
unfoldable pub error_object : ℕ → Error → List Token
error_object index error = object (member (codes "index") (number_value index) ++ member (codes "error") (number_value (error_number error)) ++ mismatch_members error)

-- The object of an item.
abbrev pub item_object : ℕ → Result EventView Error → List Token
item_object index (Ok event) = event_object index event
item_object index (Err error) = error_object index error

-- The line of an item: its object as text, and a line feed.
abbrev pub item_line : ℕ → Result EventView Error → List ℕ
item_line index item = print (item_object index item) ++ codes "\n"
