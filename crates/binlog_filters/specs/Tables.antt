-- Which tables an event is of, and whether they are asked for.
use Rattle.std.specs.Prelude.{ℕ, ◌==◌, ◌%◌, Bool, true, false, ◌&&◌, ◌||◌, List, [], ◌∷◌, take, codes, nat_eq, Option, Some, None, option_map, Result, Ok, Err, if◌then◌else◌}
use Rattle.std.specs.List.{starts_with}
use Rattle.binlog_wire.specs.declared.error.Error.{Error}
use Rattle.binlog_rows.specs.declared.table_map_event.TableMapEvent.{TableMapEvent}
use Rattle.binlog_rows.specs.RowsData.{event_in}
use Rattle.binlog_statements.specs.declared.query.QueryEvent.{QueryEvent}
use Rattle.binlog_event_data.specs.declared.event_data.EventData.{EventData}
use Rattle.binlog_event_data.specs.declared.event_data.EventData.TheVariants as mysql
use Rattle.binlog_mariadb.specs.declared.event_data.MariaEventData.{MariaEventData}
use Rattle.binlog_mariadb.specs.declared.event_data.MariaEventData.TheVariants as maria
use Rattle.binlog_file.specs.Events.{EventView}
use Rattle.binlog_file.specs.TableMapsInForce.{TableMaps}
use Rattle.binlog_file.specs.LogData.{ReadsLogData}
use Rattle.binlog_file.specs.declared.log_data.LogEventData.{LogEventData}
use Rattle.binlog_file.specs.declared.log_data.LogEventData.TheVariants as logs
use Rattle.binlog_filters.specs.Patterns.{is_match}
use Rattle.binlog_filters.specs.Reading.{IsReadAs}
use Rattle.binlog_filters.specs.declared.pattern.Pattern.{Pattern}
use Rattle.binlog_filters.specs.declared.tables.TablePattern.{TablePattern}
use Rattle.binlog_filters.specs.declared.tables.TableFilter.{TableFilter}
use Rattle.binlog_filters.specs.declared.concern.Concern.{Concern}
use Rattle.binlog_filters.specs.declared.concern.Concern.TheVariants.{Taken, Other, Unknown, Rows}

-- ---- names

-- One of these is so.
abbrev pub has_any : {P : Type 0} → (P → Bool) → List P → Bool
has_any is [] = false
has_any is (x ∷ xs) = is x || has_any is xs

-- One of these is so, or there are none.
abbrev pub is_any_of : {P : Type 0} → (P → Bool) → List P → Bool
is_any_of is [] = true
is_any_of is (x ∷ xs) = has_any is (x ∷ xs)

abbrev pub is_named : (name : List ℕ) → Pattern → Bool
is_named name pattern = is_match pattern.bytes.items name

abbrev pub is_table_named : (database table : List ℕ) → TablePattern → Bool
is_table_named database table pattern = is_named database pattern.database && is_named table pattern.table

-- The name matches a pattern of databases, if there are some.
abbrev pub asks_for_database : TableFilter → List ℕ → Bool
asks_for_database filter database = is_any_of (is_named database) filter.databases.items

-- The names match a pattern of tables, if there are some.
abbrev pub asks_for_table : TableFilter → (database table : List ℕ) → Bool
asks_for_table filter database table = is_any_of (is_table_named database table) filter.tables.items

-- The table of a table map is asked for. Names have at most 255 bytes.
abbrev pub asks_for_map : TableFilter → TableMapEvent → Bool
asks_for_map filter map = asks_for_database filter (take 255 map.table.database_name) && asks_for_table filter (take 255 map.table.database_name) (take 255 map.table.table_name)

-- ---- statements

-- The text of a statement that begins or ends a transaction or a part of it, as servers write it.
abbrev pub frames_transaction : List ℕ → Bool
frames_transaction text =
    starts_with nat_eq text (codes "BEGIN")
    || (starts_with nat_eq text (codes "COMMIT")
    || (starts_with nat_eq text (codes "ROLLBACK")
    || (starts_with nat_eq text (codes "SAVEPOINT ")
    || (starts_with nat_eq text (codes "RELEASE SAVEPOINT ")
    || starts_with nat_eq text (codes "XA ")))))

-- ---- events

-- An event of the log, or of the frame of a transaction: only a copy has it.
abbrev pub frame_concern : (is_for_copy : Bool) → Concern
frame_concern true = Taken
frame_concern false = Other

-- An event that may change any table: a copy has it, as those of the frame.
abbrev pub any_table_concern : (is_for_copy : Bool) → Concern
any_table_concern true = Taken
any_table_concern false = Unknown

abbrev pub map_concern : TableFilter → TableMapEvent → Concern
map_concern filter map = if asks_for_map filter map then Taken else Other

-- Rows of the table whose table map is in force for this id, in an event with these flags. The lowest bit is that of the last event
-- of a statement.
abbrev pub rows_concern : TableFilter → TableMaps → (table_id flags : ℕ) → Concern
rows_concern filter maps table_id flags = Rows (record { is_asked = option_map (asks_for_map filter) (maps table_id); ends_statement = flags % 2 == 1 })

-- A statement with this default database: which tables it changes isn't known.
abbrev pub concern_by : (tables : List TablePattern) (is_asked : Bool) → Concern
concern_by [] true = Taken
concern_by [] false = Other
concern_by (table ∷ tables) is_asked = Unknown

abbrev pub statement_concern : TableFilter → (database : List ℕ) → Concern
statement_concern filter database = concern_by filter.tables.items (asks_for_database filter database)

abbrev pub query_concern : TableFilter → (is_for_copy : Bool) → QueryEvent → Concern
query_concern filter is_for_copy query =
    if frames_transaction query.statement.texts.query then frame_concern is_for_copy else statement_concern filter (take 255 query.statement.texts.schema)

-- An event that only goes with a statement.
abbrev pub beside : List TablePattern → Concern
beside [] = Taken
beside (table ∷ tables) = Other

abbrev pub beside_concern : TableFilter → Concern
beside_concern filter = beside filter.tables.items

-- An event with this data of one of MySQL's types.
abbrev pub mysql_concern : TableFilter → (is_for_copy : Bool) → TableMaps → EventData → Concern
mysql_concern filter is_for_copy maps (mysql.TableMapEvent map) = map_concern filter map
mysql_concern filter is_for_copy maps (mysql.RowsEvent rows) = rows_concern filter maps (event_in rows).head.table_id (event_in rows).head.flags
mysql_concern filter is_for_copy maps (mysql.QueryEvent query) = query_concern filter is_for_copy query
mysql_concern filter is_for_copy maps (mysql.ExecuteLoadQueryEvent query) = statement_concern filter (take 255 query.statement.texts.schema)
mysql_concern filter is_for_copy maps (mysql.IntvarEvent event) = beside_concern filter
mysql_concern filter is_for_copy maps (mysql.RandEvent event) = beside_concern filter
mysql_concern filter is_for_copy maps (mysql.UserVarEvent event) = beside_concern filter
mysql_concern filter is_for_copy maps (mysql.BeginLoadQueryEvent event) = beside_concern filter
mysql_concern filter is_for_copy maps (mysql.AppendBlockEvent bytes) = beside_concern filter
mysql_concern filter is_for_copy maps (mysql.DeleteFileEvent bytes) = beside_concern filter
mysql_concern filter is_for_copy maps (mysql.RowsQueryEvent event) = Other
mysql_concern filter is_for_copy maps (mysql.LoadEvent bytes) = Unknown
mysql_concern filter is_for_copy maps (mysql.NewLoadEvent bytes) = Unknown
mysql_concern filter is_for_copy maps (mysql.CreateFileEvent bytes) = Unknown
mysql_concern filter is_for_copy maps (mysql.ExecLoadEvent bytes) = Unknown
mysql_concern filter is_for_copy maps (mysql.PreGaWriteRowsEvent bytes) = Unknown
mysql_concern filter is_for_copy maps (mysql.PreGaUpdateRowsEvent bytes) = Unknown
mysql_concern filter is_for_copy maps (mysql.PreGaDeleteRowsEvent bytes) = Unknown
mysql_concern filter is_for_copy maps (mysql.TransactionPayloadEvent bytes) = Unknown
mysql_concern filter is_for_copy maps (mysql.IncidentEvent event) = any_table_concern is_for_copy
mysql_concern filter is_for_copy maps mysql.UnknownEvent = any_table_concern is_for_copy
mysql_concern filter is_for_copy maps _ = frame_concern is_for_copy

-- An event with this data of one of MariaDB's own types.
abbrev pub maria_concern : TableFilter → (is_for_copy : Bool) → TableMaps → MariaEventData → Concern
maria_concern filter is_for_copy maps (maria.RowsCompressedEvent rows) = rows_concern filter maps (event_in rows.event).head.table_id (event_in rows.event).head.flags
maria_concern filter is_for_copy maps (maria.QueryCompressedEvent query) = statement_concern filter (take 255 query.statement.texts.schema)
maria_concern filter is_for_copy maps (maria.AnnotateRowsEvent event) = Other
maria_concern filter is_for_copy maps _ = frame_concern is_for_copy

abbrev pub data_concern : TableFilter → (is_for_copy : Bool) → TableMaps → LogEventData → Concern
data_concern filter is_for_copy maps (logs.Mysql x) = mysql_concern filter is_for_copy maps x
data_concern filter is_for_copy maps (logs.Maria x) = maria_concern filter is_for_copy maps x

-- An event of which this was read. One of an unknown type may change any table, and one whose data can't be read is taken.
abbrev pub read_concern : TableFilter → (is_for_copy : Bool) → TableMaps → Result (Option LogEventData) Error → Concern
read_concern filter is_for_copy maps (Ok (Some x)) = data_concern filter is_for_copy maps x
read_concern filter is_for_copy maps (Ok None) = any_table_concern is_for_copy
read_concern filter is_for_copy maps (Err error) = Taken

-- What the filter makes of an event, by its data or by the error that its bytes give.
pub record ReadsConcern (filter : TableFilter) (is_for_copy : Bool) (maps : TableMaps) (event : EventView) (concern : Concern) : Type 0 where
  pub read : Result (Option LogEventData) Error
  pub reads : ReadsLogData event read
  pub is : IsReadAs (read_concern filter is_for_copy maps) read concern
