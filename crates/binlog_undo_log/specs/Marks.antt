-- What is seen of an event.
use Rattle.std.specs.Prelude.{ℕ, Bool, Option, Some, None}
use Rattle.binlog_event_data.specs.declared.event_data.EventData.{EventData}
use Rattle.binlog_event_data.specs.declared.event_data.EventData.TheVariants as mysql
use Rattle.binlog_file.specs.declared.log_data.LogEventData.{LogEventData}
use Rattle.binlog_file.specs.declared.log_data.LogEventData.TheVariants.{Mysql, Maria}
use Rattle.binlog_transactions.specs.DataMarks.{mark_of_data, mark_of_maria_data}
use Rattle.binlog_transactions.specs.declared.mark.Mark.{Mark}
use Rattle.binlog_transactions.specs.declared.mark.Mark.TheVariants as marks
use Rattle.binlog_transactions.specs.declared.role.Role.{Role}
use Rattle.binlog_transactions.specs.declared.role.Role.TheVariants as roles
use Rattle.binlog_transactions.specs.declared.statements.StatementKind.TheVariants as kinds

-- The mark of data that says it.
abbrev pub mark_of_log_data : Bool → LogEventData → Option Mark
mark_of_log_data is_undone (Mysql body) = mark_of_data is_undone body
mark_of_log_data is_undone (Maria body) = mark_of_maria_data is_undone body

-- The mark of an event with this role and this data. A compressed statement is one that can't be undone.
abbrev pub mark_in : Role → Bool → LogEventData → Option Mark
mark_in (roles.Known mark) is_undone body = Some mark
mark_in roles.CompressedQuery is_undone body = Some (marks.Statement kinds.Other)
mark_in roles.Query is_undone body = mark_of_log_data is_undone body
mark_in roles.Rows is_undone body = mark_of_log_data is_undone body
mark_in roles.CompressedRows is_undone body = mark_of_log_data is_undone body
mark_in roles.MariaGtid is_undone body = mark_of_log_data is_undone body

abbrev table_id_in_data : EventData → Option ℕ
table_id_in_data (mysql.TableMapEvent map) = Some map.table.id
table_id_in_data _ = None

-- The id of a table map.
abbrev pub table_id_in : LogEventData → Option ℕ
table_id_in (Mysql body) = table_id_in_data body
table_id_in (Maria body) = None
