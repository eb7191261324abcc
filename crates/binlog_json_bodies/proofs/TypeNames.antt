-- The names of event types need no escape in a string.
use Rattle.std.specs.Prelude.{◌≡◌, refl}
use Rattle.binlog_consts.specs.declared.event_type.EventType.{EventType}
use Rattle.binlog_consts.specs.declared.event_type.EventType.TheVariants.{UNKNOWN_EVENT, START_EVENT_V3, QUERY_EVENT, STOP_EVENT, ROTATE_EVENT, INTVAR_EVENT, LOAD_EVENT, SLAVE_EVENT, CREATE_FILE_EVENT, APPEND_BLOCK_EVENT, EXEC_LOAD_EVENT, DELETE_FILE_EVENT, NEW_LOAD_EVENT, RAND_EVENT, USER_VAR_EVENT, FORMAT_DESCRIPTION_EVENT, XID_EVENT, BEGIN_LOAD_QUERY_EVENT, EXECUTE_LOAD_QUERY_EVENT, TABLE_MAP_EVENT, PRE_GA_WRITE_ROWS_EVENT, PRE_GA_UPDATE_ROWS_EVENT, PRE_GA_DELETE_ROWS_EVENT, WRITE_ROWS_EVENT_V1, UPDATE_ROWS_EVENT_V1, DELETE_ROWS_EVENT_V1, INCIDENT_EVENT, HEARTBEAT_EVENT, IGNORABLE_EVENT, ROWS_QUERY_EVENT, WRITE_ROWS_EVENT, UPDATE_ROWS_EVENT, DELETE_ROWS_EVENT, GTID_EVENT, ANONYMOUS_GTID_EVENT, PREVIOUS_GTIDS_EVENT, TRANSACTION_CONTEXT_EVENT, VIEW_CHANGE_EVENT, XA_PREPARE_LOG_EVENT, PARTIAL_UPDATE_ROWS_EVENT, TRANSACTION_PAYLOAD_EVENT, GTID_TAGGED_LOG_EVENT, ENUM_END_EVENT}
use Rattle.binlog_event_types.specs.MysqlNames.{type_name}
use Rattle.json_line.specs.Lines.{IsPlainText}

pub plain_type_name : (event_type : EventType) → IsPlainText (type_name event_type)
plain_type_name UNKNOWN_EVENT = refl
plain_type_name START_EVENT_V3 = refl
plain_type_name QUERY_EVENT = refl
plain_type_name STOP_EVENT = refl
plain_type_name ROTATE_EVENT = refl
plain_type_name INTVAR_EVENT = refl
plain_type_name LOAD_EVENT = refl
plain_type_name SLAVE_EVENT = refl
plain_type_name CREATE_FILE_EVENT = refl
plain_type_name APPEND_BLOCK_EVENT = refl
plain_type_name EXEC_LOAD_EVENT = refl
plain_type_name DELETE_FILE_EVENT = refl
plain_type_name NEW_LOAD_EVENT = refl
plain_type_name RAND_EVENT = refl
plain_type_name USER_VAR_EVENT = refl
plain_type_name FORMAT_DESCRIPTION_EVENT = refl
plain_type_name XID_EVENT = refl
plain_type_name BEGIN_LOAD_QUERY_EVENT = refl
plain_type_name EXECUTE_LOAD_QUERY_EVENT = refl
plain_type_name TABLE_MAP_EVENT = refl
plain_type_name PRE_GA_WRITE_ROWS_EVENT = refl
plain_type_name PRE_GA_UPDATE_ROWS_EVENT = refl
plain_type_name PRE_GA_DELETE_ROWS_EVENT = refl
plain_type_name WRITE_ROWS_EVENT_V1 = refl
plain_type_name UPDATE_ROWS_EVENT_V1 = refl
plain_type_name DELETE_ROWS_EVENT_V1 = refl
plain_type_name INCIDENT_EVENT = refl
plain_type_name HEARTBEAT_EVENT = refl
plain_type_name IGNORABLE_EVENT = refl
plain_type_name ROWS_QUERY_EVENT = refl
plain_type_name WRITE_ROWS_EVENT = refl
plain_type_name UPDATE_ROWS_EVENT = refl
plain_type_name DELETE_ROWS_EVENT = refl
plain_type_name GTID_EVENT = refl
plain_type_name ANONYMOUS_GTID_EVENT = refl
plain_type_name PREVIOUS_GTIDS_EVENT = refl
plain_type_name TRANSACTION_CONTEXT_EVENT = refl
plain_type_name VIEW_CHANGE_EVENT = refl
plain_type_name XA_PREPARE_LOG_EVENT = refl
plain_type_name PARTIAL_UPDATE_ROWS_EVENT = refl
plain_type_name TRANSACTION_PAYLOAD_EVENT = refl
plain_type_name GTID_TAGGED_LOG_EVENT = refl
plain_type_name ENUM_END_EVENT = refl
