-- The names of MariaDB's event types need no escape in a string.
use Rattle.std.specs.Prelude.{refl}
use Rattle.binlog_mariadb.specs.declared.event_type.MariaEventType.{MariaEventType}
use Rattle.binlog_mariadb.specs.declared.event_type.MariaEventType.TheVariants.{ANNOTATE_ROWS_EVENT, BINLOG_CHECKPOINT_EVENT, GTID_EVENT, GTID_LIST_EVENT, START_ENCRYPTION_EVENT, QUERY_COMPRESSED_EVENT, WRITE_ROWS_COMPRESSED_EVENT_V1, UPDATE_ROWS_COMPRESSED_EVENT_V1, DELETE_ROWS_COMPRESSED_EVENT_V1, WRITE_ROWS_COMPRESSED_EVENT, UPDATE_ROWS_COMPRESSED_EVENT, DELETE_ROWS_COMPRESSED_EVENT}
use Rattle.binlog_event_types.specs.MariaNames.{maria_name}
use Rattle.json_line.specs.Lines.{IsPlainText}

pub plain_maria_name : (event_type : MariaEventType) → IsPlainText (maria_name event_type)
plain_maria_name ANNOTATE_ROWS_EVENT = refl
plain_maria_name BINLOG_CHECKPOINT_EVENT = refl
plain_maria_name GTID_EVENT = refl
plain_maria_name GTID_LIST_EVENT = refl
plain_maria_name START_ENCRYPTION_EVENT = refl
plain_maria_name QUERY_COMPRESSED_EVENT = refl
plain_maria_name WRITE_ROWS_COMPRESSED_EVENT_V1 = refl
plain_maria_name UPDATE_ROWS_COMPRESSED_EVENT_V1 = refl
plain_maria_name DELETE_ROWS_COMPRESSED_EVENT_V1 = refl
plain_maria_name WRITE_ROWS_COMPRESSED_EVENT = refl
plain_maria_name UPDATE_ROWS_COMPRESSED_EVENT = refl
plain_maria_name DELETE_ROWS_COMPRESSED_EVENT = refl
