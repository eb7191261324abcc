-- What the type of an event says of its mark.
-- Source: MySQL's documentation of its source code, `mysql::binlog::event::Log_event_type`, and MariaDB's documentation, "Binary Log
-- Events".
use Rattle.std.specs.Prelude.{ℕ, ◌==◌, Bool, false, not, bit_and, Result, Ok, Err, if◌then◌else◌}
use Rattle.binlog_consts.specs.EventTypes.{event_type_of}
use Rattle.binlog_consts.specs.declared.event_type.EventType.{EventType}
use Rattle.binlog_consts.specs.declared.event_type.EventType.TheVariants as types
use Rattle.binlog_consts.specs.declared.event_type.UnknownEventType.{UnknownEventType}
use Rattle.binlog_mariadb.specs.EventTypes.{maria_event_type_of}
use Rattle.binlog_mariadb.specs.declared.event_type.MariaEventType.{MariaEventType}
use Rattle.binlog_mariadb.specs.declared.event_type.MariaEventType.TheVariants as maria
use Rattle.binlog_mariadb.specs.declared.event_type.UnknownMariaEventType.{UnknownMariaEventType}
use Rattle.binlog_transactions.specs.declared.mark.GtidMark.{GtidMark}
use Rattle.binlog_transactions.specs.declared.mark.Mark.TheVariants as marks
use Rattle.binlog_transactions.specs.declared.mark.Unsupported.TheVariants as events
use Rattle.binlog_transactions.specs.declared.role.Role.{Role}
use Rattle.binlog_transactions.specs.declared.role.Role.TheVariants as roles

-- The flags of a GTID of MariaDB's: 1 and 128 announce one statement, 64 and 128 are of XA transactions.
abbrev pub gtid_mark : ℕ → GtidMark
gtid_mark flags = record { is_group = bit_and flags 129 == 0; is_xa = not (bit_and flags 192 == 0) }

-- A type without a role.
abbrev pub other : Bool → Role
other is_ignorable = if is_ignorable then roles.Known marks.Nothing else roles.Known (marks.Unsupported events.UnknownEvent)

abbrev pub role_of_type : Bool → EventType → Role
role_of_type is_ignorable types.UNKNOWN_EVENT = other is_ignorable
role_of_type is_ignorable types.START_EVENT_V3 = roles.Known marks.Nothing
role_of_type is_ignorable types.QUERY_EVENT = roles.Query
role_of_type is_ignorable types.STOP_EVENT = roles.Known marks.Border
role_of_type is_ignorable types.ROTATE_EVENT = roles.Known marks.Border
role_of_type is_ignorable types.INTVAR_EVENT = roles.Known marks.Nothing
role_of_type is_ignorable types.LOAD_EVENT = roles.Known (marks.Unsupported events.LoadData)
role_of_type is_ignorable types.SLAVE_EVENT = other is_ignorable
role_of_type is_ignorable types.CREATE_FILE_EVENT = roles.Known (marks.Unsupported events.LoadDataPart)
role_of_type is_ignorable types.APPEND_BLOCK_EVENT = roles.Known (marks.Unsupported events.LoadDataPart)
role_of_type is_ignorable types.EXEC_LOAD_EVENT = roles.Known (marks.Unsupported events.LoadData)
role_of_type is_ignorable types.DELETE_FILE_EVENT = roles.Known (marks.Unsupported events.LoadData)
role_of_type is_ignorable types.NEW_LOAD_EVENT = roles.Known (marks.Unsupported events.LoadData)
role_of_type is_ignorable types.RAND_EVENT = roles.Known marks.Nothing
role_of_type is_ignorable types.USER_VAR_EVENT = roles.Known marks.Nothing
role_of_type is_ignorable types.FORMAT_DESCRIPTION_EVENT = roles.Known marks.Border
role_of_type is_ignorable types.XID_EVENT = roles.Known marks.Xid
role_of_type is_ignorable types.BEGIN_LOAD_QUERY_EVENT = roles.Known (marks.Unsupported events.LoadDataPart)
role_of_type is_ignorable types.EXECUTE_LOAD_QUERY_EVENT = roles.Known (marks.Unsupported events.LoadData)
role_of_type is_ignorable types.TABLE_MAP_EVENT = roles.Known marks.TableMap
role_of_type is_ignorable types.PRE_GA_WRITE_ROWS_EVENT = roles.Known (marks.Unsupported events.OldRows)
role_of_type is_ignorable types.PRE_GA_UPDATE_ROWS_EVENT = roles.Known (marks.Unsupported events.OldRows)
role_of_type is_ignorable types.PRE_GA_DELETE_ROWS_EVENT = roles.Known (marks.Unsupported events.OldRows)
role_of_type is_ignorable types.WRITE_ROWS_EVENT_V1 = roles.Rows
role_of_type is_ignorable types.UPDATE_ROWS_EVENT_V1 = roles.Rows
role_of_type is_ignorable types.DELETE_ROWS_EVENT_V1 = roles.Rows
role_of_type is_ignorable types.INCIDENT_EVENT = roles.Known (marks.Unsupported events.Incident)
role_of_type is_ignorable types.HEARTBEAT_EVENT = roles.Known marks.Nothing
role_of_type is_ignorable types.IGNORABLE_EVENT = roles.Known marks.Nothing
role_of_type is_ignorable types.ROWS_QUERY_EVENT = roles.Known marks.Nothing
role_of_type is_ignorable types.WRITE_ROWS_EVENT = roles.Rows
role_of_type is_ignorable types.UPDATE_ROWS_EVENT = roles.Rows
role_of_type is_ignorable types.DELETE_ROWS_EVENT = roles.Rows
role_of_type is_ignorable types.GTID_EVENT = roles.Known (marks.Gtid (record { is_group = false; is_xa = false }))
role_of_type is_ignorable types.ANONYMOUS_GTID_EVENT = roles.Known (marks.Gtid (record { is_group = false; is_xa = false }))
role_of_type is_ignorable types.PREVIOUS_GTIDS_EVENT = roles.Known marks.Nothing
role_of_type is_ignorable types.TRANSACTION_CONTEXT_EVENT = roles.Known marks.Nothing
role_of_type is_ignorable types.VIEW_CHANGE_EVENT = roles.Known marks.Nothing
role_of_type is_ignorable types.XA_PREPARE_LOG_EVENT = roles.Known (marks.Unsupported events.XaPrepare)
role_of_type is_ignorable types.PARTIAL_UPDATE_ROWS_EVENT = roles.Rows
role_of_type is_ignorable types.TRANSACTION_PAYLOAD_EVENT = roles.Known (marks.Unsupported events.Payload)
role_of_type is_ignorable types.GTID_TAGGED_LOG_EVENT = roles.Known (marks.Gtid (record { is_group = false; is_xa = false }))
role_of_type is_ignorable types.ENUM_END_EVENT = other is_ignorable

abbrev pub role_of_maria_type : MariaEventType → Role
role_of_maria_type maria.ANNOTATE_ROWS_EVENT = roles.Known marks.Nothing
role_of_maria_type maria.BINLOG_CHECKPOINT_EVENT = roles.Known marks.Nothing
role_of_maria_type maria.GTID_EVENT = roles.MariaGtid
role_of_maria_type maria.GTID_LIST_EVENT = roles.Known marks.Nothing
role_of_maria_type maria.START_ENCRYPTION_EVENT = roles.Known marks.Encryption
role_of_maria_type maria.QUERY_COMPRESSED_EVENT = roles.CompressedQuery
role_of_maria_type maria.WRITE_ROWS_COMPRESSED_EVENT_V1 = roles.CompressedRows
role_of_maria_type maria.UPDATE_ROWS_COMPRESSED_EVENT_V1 = roles.CompressedRows
role_of_maria_type maria.DELETE_ROWS_COMPRESSED_EVENT_V1 = roles.CompressedRows
role_of_maria_type maria.WRITE_ROWS_COMPRESSED_EVENT = roles.CompressedRows
role_of_maria_type maria.UPDATE_ROWS_COMPRESSED_EVENT = roles.CompressedRows
role_of_maria_type maria.DELETE_ROWS_COMPRESSED_EVENT = roles.CompressedRows

-- A number that isn't one of MySQL's types, in a log of MariaDB's.
abbrev pub maria_role_as : Bool → Result MariaEventType UnknownMariaEventType → Role
maria_role_as is_ignorable (Ok event_type) = role_of_maria_type event_type
maria_role_as is_ignorable (Err unknown) = other is_ignorable

abbrev pub maria_role : Bool → ℕ → Role
maria_role is_ignorable number = maria_role_as is_ignorable (maria_event_type_of number)

abbrev pub role_as : Bool → Bool → ℕ → Result EventType UnknownEventType → Role
role_as is_of_maria is_ignorable number (Ok event_type) = role_of_type is_ignorable event_type
role_as is_of_maria is_ignorable number (Err unknown) = if is_of_maria then maria_role is_ignorable number else other is_ignorable

-- An event with this number as its type, in a log of MariaDB's or of MySQL's, which may be ignored or not.
abbrev pub role_of : Bool → Bool → ℕ → Role
role_of is_of_maria is_ignorable number = role_as is_of_maria is_ignorable number (event_type_of number)
