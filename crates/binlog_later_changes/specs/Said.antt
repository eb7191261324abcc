-- What an event says of changes of tables.
use Rattle.std.specs.Prelude.{◌≡◌, ◌↔◌, ℕ, ◌==◌, Bool, true, false, not, bit_and, IsTrue, length, take, Option, Some, None, option_and_then, Result, Ok, Err}
use Rattle.binlog_wire.specs.declared.error.Error.{Error}
use Rattle.binlog_wire.specs.declared.error.Error.TheVariants.{Memory}
use Rattle.binlog_event_data.specs.declared.event_data.EventData.{EventData}
use Rattle.binlog_event_data.specs.declared.event_data.EventData.TheVariants as mysql
use Rattle.binlog_event_format.specs.Headers.{header_of}
use Rattle.binlog_events.specs.Events.{EventView}
use Rattle.binlog_file.specs.LogData.{ReadsLogData}
use Rattle.binlog_file.specs.TableMapsInForce.{TableMaps}
use Rattle.binlog_file.specs.declared.log_data.LogEventData.{LogEventData}
use Rattle.binlog_file.specs.declared.log_data.LogEventData.TheVariants.{Mysql, Maria}
use Rattle.binlog_mariadb.specs.Flavour.{IsMariaVersion}
use Rattle.binlog_mariadb.specs.declared.event_data.MariaEventData.{MariaEventData}
use Rattle.binlog_mariadb.specs.declared.event_data.MariaEventData.TheVariants as maria
use Rattle.binlog_rows.specs.RowsData.{event_in}
use Rattle.binlog_rows.specs.declared.rows_event_data.RowsEventData.{RowsEventData}
use Rattle.binlog_rows.specs.declared.table_map_event.TableMapEvent.{TableMapEvent}
use Rattle.binlog_transactions.specs.DataMarks.{statement_mark}
use Rattle.binlog_transactions.specs.Roles.{role_of}
use Rattle.binlog_transactions.specs.declared.mark.Mark.{Mark}
use Rattle.binlog_transactions.specs.declared.mark.Mark.TheVariants as marks
use Rattle.binlog_transactions.specs.declared.mark.Unsupported.{Unsupported}
use Rattle.binlog_transactions.specs.declared.mark.Unsupported.TheVariants as events
use Rattle.binlog_transactions.specs.declared.refusal.Refusal.{Refusal}
use Rattle.binlog_transactions.specs.declared.refusal.Refusal.TheVariants as refusals
use Rattle.binlog_transactions.specs.declared.role.Role.{Role}
use Rattle.binlog_transactions.specs.declared.role.Role.TheVariants as roles
use Rattle.binlog_transactions.specs.declared.statements.StatementKind.{StatementKind}
use Rattle.binlog_transactions.specs.declared.statements.StatementKind.TheVariants as kinds
use Rattle.binlog_undo_index.specs.declared.reason.Reason.{Reason}
use Rattle.binlog_undo_index.specs.declared.reason.Reason.TheVariants as reasons
use Rattle.change_statistics.specs.Facts.{Name}
use Rattle.change_statistics.specs.Names.{name_of}
use Rattle.binlog_later_changes.specs.CompleteRows.{is_complete}
use Rattle.binlog_later_changes.specs.Later.{Cause, table, unknown}
use Rattle.binlog_later_changes.specs.declared.saying.RowsIn.{RowsIn}
use Rattle.binlog_later_changes.specs.declared.saying.RowsIn.TheVariants as rows
use Rattle.binlog_later_changes.specs.declared.saying.Said.{Said}
use Rattle.binlog_later_changes.specs.declared.saying.Said.TheVariants as said

-- What it says, as contracts see it: nothing, or a cause that it may be in the way.
abbrev pub said_of : Said → Option Cause
said_of said.Nothing = None
said_of (said.Rows name) = Some (table (name_of name))
said_of (said.Unknown reason) = Some (unknown reason)

-- ---- rows

-- Without bytes there are no rows if the images have all columns. Else there may be some: a row of no columns has no bytes.
abbrev pub rows_without_bytes : (is_complete : Bool) → ℕ → RowsIn
rows_without_bytes true id = rows.Nothing
rows_without_bytes false id = rows.WithoutBytes id

abbrev pub rows_if : (is_empty is_complete : Bool) → ℕ → RowsIn
rows_if true whole id = rows_without_bytes whole id
rows_if false whole id = rows.Table id

abbrev pub rows_of_event : RowsEventData → RowsIn
rows_of_event body = rows_if (length (event_in body).rows == 0) (is_complete body) (event_in body).head.table_id

abbrev pub rows_in_mysql : EventData → RowsIn
rows_in_mysql (mysql.RowsEvent body) = rows_of_event body
rows_in_mysql _ = rows.Unreadable

abbrev pub rows_in_maria : MariaEventData → RowsIn
rows_in_maria (maria.RowsCompressedEvent body) = rows.Table (event_in body.event).head.table_id
rows_in_maria _ = rows.Unreadable

abbrev pub rows_in_body : LogEventData → RowsIn
rows_in_body (Mysql body) = rows_in_mysql body
rows_in_body (Maria body) = rows_in_maria body

-- The rows of an event of which this was read.
abbrev pub rows_in : Result (Option LogEventData) Error → RowsIn
rows_in (Ok (Some body)) = rows_in_body body
rows_in (Ok None) = rows.Unreadable
rows_in (Err error) = rows.Unreadable

-- The table map in force for rows.
abbrev pub map_for : TableMaps → RowsIn → Option TableMapEvent
map_for maps (rows.Table id) = maps id
map_for maps (rows.WithoutBytes id) = maps id
map_for maps rows.Nothing = None
map_for maps rows.Unreadable = None

-- The names that a table map has: at most 255 bytes each.
abbrev pub name_in : TableMapEvent → Name
name_in map = record { database = take 255 map.table.database_name; table = take 255 map.table.table_name }

abbrev pub cause_by_map : Option TableMapEvent → Option Cause
cause_by_map None = Some (unknown reasons.NoTableMap)
cause_by_map (Some map) = Some (table (name_in map))

-- Of rows without bytes, which are none if no table map says whose they are.
abbrev pub cause_if_mapped : Option TableMapEvent → Option Cause
cause_if_mapped None = None
cause_if_mapped (Some map) = Some (table (name_in map))

abbrev pub cause_of_rows : RowsIn → Option TableMapEvent → Option Cause
cause_of_rows rows.Nothing map = None
cause_of_rows rows.Unreadable map = Some (unknown reasons.Damaged)
cause_of_rows (rows.Table id) map = cause_by_map map
cause_of_rows (rows.WithoutBytes id) map = cause_if_mapped map

-- ---- other events

abbrev pub refused : Refusal → Option Cause
refused refusal = Some (unknown (reasons.Transaction refusal))

-- The rows of a compressed transaction are those of the events inside, and those of an XA transaction are in front of its end.
abbrev pub cause_of_event : Unsupported → Option Cause
cause_of_event events.XaPrepare = None
cause_of_event events.Payload = None
cause_of_event events.LoadData = refused refusals.LoadData
cause_of_event events.LoadDataPart = refused refusals.LoadData
cause_of_event events.Incident = refused refusals.Incident
cause_of_event events.OldRows = refused refusals.OldRows
cause_of_event events.UnknownEvent = refused refusals.UnknownEvent

abbrev pub cause_of_kind : StatementKind → Option Cause
cause_of_kind kinds.Other = refused refusals.Statement
cause_of_kind _ = None

-- What an event with this mark says.
abbrev pub cause_of_mark : Mark → Option Cause
cause_of_mark (marks.Statement kind) = cause_of_kind kind
cause_of_mark marks.Encryption = refused refusals.Encrypted
cause_of_mark (marks.Unsupported event) = cause_of_event event
cause_of_mark _ = None

abbrev pub cause_of_query : EventData → Option Cause
cause_of_query (mysql.QueryEvent query) = cause_of_mark (statement_mark query.statement.texts.query)
cause_of_query _ = Some (unknown reasons.Damaged)

abbrev pub cause_of_body : LogEventData → Option Cause
cause_of_body (Mysql body) = cause_of_query body
cause_of_body (Maria body) = Some (unknown reasons.Damaged)

-- What a statement says of which this was read.
abbrev pub cause_of_statement : Result (Option LogEventData) Error → Option Cause
cause_of_statement (Ok (Some body)) = cause_of_body body
cause_of_statement (Ok None) = Some (unknown reasons.Damaged)
cause_of_statement (Err error) = Some (unknown reasons.Damaged)

-- ---- an event

-- What an event of this role says, of which this was read, where this is the table map in force for its rows. A compressed statement is one
-- that can't be undone.
abbrev pub cause_in : Role → Result (Option LogEventData) Error → Option TableMapEvent → Option Cause
cause_in (roles.Known mark) read map = cause_of_mark mark
cause_in roles.MariaGtid read map = None
cause_in roles.CompressedQuery read map = refused refusals.Statement
cause_in roles.Query read map = cause_of_statement read
cause_in roles.Rows read map = cause_of_rows (rows_in read) map
cause_in roles.CompressedRows read map = cause_of_rows (rows_in read) map

-- The role of an event. The flag 0x80 says that events of a type without a role may be ignored.
abbrev pub IsRole : EventView → Role → Type 0
IsRole event role =
    (is_of_maria : Bool) × (IsTrue is_of_maria ↔ IsMariaVersion (take 50 event.fde.server_version))
    × (role ≡ role_of is_of_maria (not (bit_and (header_of event.frame).flags 0x80 == 0)) (header_of event.frame).event_type)

-- Memory was refused.
abbrev pub is_memory : Result (Option LogEventData) Error → Bool
is_memory (Err Memory) = true
is_memory read = false

-- What an event says, where these table maps are in force behind it.
pub record Says (maps : TableMaps) (event : EventView) (cause : Option Cause) : Type 0 where
  pub role : Role
  pub is_role : IsRole event role
  pub read : Result (Option LogEventData) Error
  pub reads : ReadsLogData event read
  pub known : is_memory read ≡ false
  pub is : cause ≡ cause_in role read (map_for maps (rows_in read))
