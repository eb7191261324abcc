-- The objects of the smaller events.
use Rattle.std.specs.Prelude.{ℕ, List, ◌++◌, take, codes, Result, Ok, Err}
use Rattle.json.specs.Token.{Token}
use Rattle.binlog_file.specs.Reading.{Read}
use Rattle.binlog_file.specs.Fields.{terminated_at}
use Rattle.binlog_file.specs.Codes.{subtype_number, incident_type_number, incident_type_of}
use Rattle.binlog_file.specs.Versions.{version_number}
use Rattle.binlog_file.specs.declared.IncidentType.{IncidentType}
use Rattle.binlog_file.specs.declared.UnknownIncidentType.{UnknownIncidentType}
use Rattle.binlog_file.specs.declared.FormatDescriptionEvent.{FormatDescriptionEvent}
use Rattle.binlog_file.specs.declared.BeginLoadQueryEvent.{BeginLoadQueryEvent}
use Rattle.binlog_file.specs.declared.RotateEvent.{RotateEvent}
use Rattle.binlog_file.specs.declared.IntvarEvent.{IntvarEvent}
use Rattle.binlog_file.specs.declared.RandEvent.{RandEvent}
use Rattle.binlog_file.specs.declared.XidEvent.{XidEvent}
use Rattle.binlog_file.specs.declared.IncidentEvent.{IncidentEvent}
use Rattle.binlog_file.specs.declared.RowsQueryEvent.{RowsQueryEvent}
use Rattle.json_line.specs.Tokens.{number_value, text_value, bytes_value, or_null, member, object}

-- The object of a ROTATE event.
abbrev pub rotate_object : RotateEvent → List Token
rotate_object e = object (member (codes "position") (number_value e.position) ++ member (codes "name") (text_value e.name))

-- The object of an INTVAR event.
abbrev pub intvar_object : IntvarEvent → List Token
intvar_object e = object (member (codes "subtype") (number_value (subtype_number e.subtype)) ++ member (codes "value") (number_value e.value))

-- The object of a RAND event.
abbrev pub rand_object : RandEvent → List Token
rand_object e = object (member (codes "seed1") (number_value e.seed1.0) ++ member (codes "seed2") (number_value e.seed2.0))

-- The object of an XID event.
abbrev pub xid_object : XidEvent → List Token
xid_object e = object (member (codes "xid") (number_value e.xid))

-- The object of a BEGIN_LOAD_QUERY event.
abbrev pub begin_load_query_object : BeginLoadQueryEvent → List Token
begin_load_query_object e = object (member (codes "file_id") (number_value e.file_id) ++ member (codes "block_data") (bytes_value e.block_data))

-- The number of an incident, known or not.
abbrev pub incident_number : Result IncidentType UnknownIncidentType → ℕ
incident_number (Ok type) = incident_type_number type
incident_number (Err unknown) = unknown.0

-- The object of an INCIDENT event.
abbrev pub incident_object : IncidentEvent → List Token
incident_object e =
    object (member (codes "incident_type") (number_value (incident_number (incident_type_of e.incident_type))) ++ member (codes "message") (text_value (take 255 e.message)))

-- The object of a ROWS_QUERY event.
abbrev pub rows_query_object : RowsQueryEvent → List Token
rows_query_object e = object (member (codes "query") (text_value e.query))

-- The bytes before the first zero byte, from the result of reading a zero-terminated string; all bytes if there is no
-- zero byte.
abbrev pub in_front : List ℕ → Read (List ℕ) → List ℕ
in_front text (Ok x) = x.0
in_front text (Err why) = text

-- The bytes before the first zero byte, or all if there is none.
abbrev pub up_to_zero : List ℕ → List ℕ
up_to_zero text = in_front text (terminated_at text)

-- The binlog version, the server version and the creation timestamp of a format description.
abbrev pub description_head : FormatDescriptionEvent → List Token
description_head e =
    member (codes "binlog_version") (number_value (version_number e.binlog_version))
    ++ member (codes "server_version") (text_value (up_to_zero (take 50 e.server_version)))
    ++ member (codes "create_timestamp") (number_value e.create_timestamp)

-- The object of a format description.
abbrev pub description_object : FormatDescriptionEvent → List Token
description_object e = object (description_head e
    ++ member (codes "event_header_length") (number_value 19)
    ++ member (codes "event_type_header_lengths") (bytes_value e.event_type_header_lengths)
    ++ member (codes "checksum_alg") (or_null number_value e.footer.checksum_alg))
