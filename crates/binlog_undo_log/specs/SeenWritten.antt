-- What the first pass sees of the events of a log that is written.
use Rattle.std.specs.Prelude.{◌≡◌, ℕ, List, [], Option, Some, None, Ok}
use Rattle.binlog_consts.specs.declared.event_type.EventType.TheVariants.{QUERY_EVENT, XID_EVENT, TABLE_MAP_EVENT}
use Rattle.binlog_event_data.specs.declared.event_data.EventData.TheVariants as mysql
use Rattle.binlog_event_format.specs.PostHeaders.{post_header}
use Rattle.binlog_event_format.specs.declared.format_description.FormatDescriptionEvent.{FormatDescriptionEvent}
use Rattle.binlog_events.specs.Events.{EventView}
use Rattle.binlog_file.specs.TableMapsInForce.{TableMaps}
use Rattle.binlog_file.specs.declared.log_data.LogEventData.TheVariants.{Mysql}
use Rattle.binlog_rows.specs.Rows.{rows}
use Rattle.binlog_rows.specs.RowsData.{event_in, form_in}
use Rattle.binlog_rows.specs.TableMaps.{table_map}
use Rattle.binlog_rows.specs.declared.rows_event_data.RowsEventData.{RowsEventData}
use Rattle.binlog_rows.specs.declared.table_map_event.TableMapEvent.{TableMapEvent}
use Rattle.binlog_transactions.specs.declared.mark.Mark.TheVariants as marks
use Rattle.binlog_transactions.specs.declared.role.Role.TheVariants as roles
use Rattle.binlog_transactions.specs.declared.statements.StatementKind.TheVariants as kinds
use Rattle.binlog_undo.specs.InverseEvents.{type_of}
use Rattle.binlog_undo_index.specs.declared.seen.SeenEvent.{SeenEvent}
use Rattle.binlog_undo.specs.Events.{begin_body, xid_body}
use Rattle.binlog_undo.specs.Transactions.{Event}
use Rattle.binlog_undo_log.specs.Looking.{LooksAtRows}
use Rattle.binlog_undo_log.specs.Scanning.{seen_event, seen_mark, seen_as}
use Rattle.binlog_undo_log.specs.declared.scan.seeing.RowsLook.{RowsLook}
use Rattle.binlog_undo_log.specs.declared.scan.seeing.RowsLook.TheVariants.{Left}
use Rattle.binlog_undo_log.specs.declared.scan.UndoScan.{UndoScan}

-- What is seen of an event that was written as this one: a BEGIN begins a transaction, an XID ends it, a table map is one with its id, and
-- rows are looked at as the rows that were written.
pub record AreSeenAsWritten (scan : UndoScan) (maps : TableMaps) (index : ℕ) (d : FormatDescriptionEvent) (written : Event) (event : EventView) (seen : Option SeenEvent) : Type 0 where
  pub begin : written.event_type ≡ QUERY_EVENT → written.body ≡ begin_body → seen ≡ Some (seen_event scan index event (marks.Statement kinds.Begin) None Left)
  pub commit : (number : ℕ) → written.event_type ≡ XID_EVENT → written.body ≡ xid_body number → seen ≡ Some (seen_event scan index event marks.Xid None Left)
  pub map : (map : TableMapEvent) → written.event_type ≡ TABLE_MAP_EVENT → (table_map (post_header d TABLE_MAP_EVENT)).reads written.body ≡ Ok (map, [])
      → seen ≡ Some (seen_event scan index event marks.TableMap (Some map.table.id) Left)
  pub rows : (content : RowsEventData) → written.event_type ≡ type_of content
      → (rows (form_in content) (post_header d (type_of content))).spells written.body (event_in content) []
      → (look : RowsLook) × LooksAtRows scan maps event content look
      × (seen ≡ seen_as scan index event (seen_mark roles.Rows (Mysql (mysql.RowsEvent content)) look) None look)
