-- The marks of events that depend on their data.
use Rattle.std.specs.Prelude.{ℕ, ◌==◌, Bool, not, bit_and, List, Option, Some, None}
use Rattle.binlog_event_data.specs.declared.event_data.EventData.{EventData}
use Rattle.binlog_event_data.specs.declared.event_data.EventData.TheVariants as mysql
use Rattle.binlog_mariadb.specs.declared.event_data.MariaEventData.{MariaEventData}
use Rattle.binlog_mariadb.specs.declared.event_data.MariaEventData.TheVariants as maria
use Rattle.binlog_rows.specs.RowsData.{event_in}
use Rattle.binlog_transactions.specs.Roles.{gtid_mark}
use Rattle.binlog_transactions.specs.Statements.{kind_of}
use Rattle.binlog_transactions.specs.declared.mark.Mark.{Mark}
use Rattle.binlog_transactions.specs.declared.mark.Mark.TheVariants as marks

abbrev pub statement_mark : List ℕ → Mark
statement_mark text = marks.Statement (kind_of text)

-- The flag 1 ends a statement.
abbrev pub rows_mark : Bool → ℕ → Mark
rows_mark is_undone flags = marks.Rows (record { ends_statement = not (bit_and flags 1 == 0); is_undone = is_undone })

-- An event of one of MySQL's types.
abbrev pub mark_of_data : Bool → EventData → Option Mark
mark_of_data is_undone (mysql.QueryEvent query) = Some (statement_mark query.statement.texts.query)
mark_of_data is_undone (mysql.RowsEvent rows) = Some (rows_mark is_undone (event_in rows).head.flags)
mark_of_data is_undone _ = None

-- One of MariaDB's own events.
abbrev pub mark_of_maria_data : Bool → MariaEventData → Option Mark
mark_of_maria_data is_undone (maria.GtidEvent gtid) = Some (marks.Gtid (gtid_mark gtid.head.flags))
mark_of_maria_data is_undone (maria.RowsCompressedEvent rows) = Some (rows_mark is_undone (event_in rows.event).head.flags)
mark_of_maria_data is_undone _ = None
