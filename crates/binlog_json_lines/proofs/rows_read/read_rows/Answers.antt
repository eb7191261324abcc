use Rattle.std.proofs.Common.{◌≡◌, true, sym, ◌∙◌}
use Rattle.binlog_consts.specs.EventTypes.{event_type_of}
use Rattle.binlog_event_format.specs.Headers.{header_of}
use Rattle.binlog_events.specs.EventRefs.{view_of}
use Rattle.binlog_events.specs.Parts.{data_of}
use Rattle.binlog_filters.specs.RowEvents.{is_of_rows}
use Rattle.binlog_filters.proofs.RowsRead.{of_other_type}
use Rattle.binlog_json_lines.proofs.ReadRows.{of_read}
use Rattle.binlog_json_lines.proofs.rows_read.read_rows.Goals as goal

pub returns-then-is_row_event : goal.returns-then-is_row_event
returns-then-is_row_event c =
    let e = view_of c.args.event.now in
    let rows : is_of_rows (event_type_of (header_of e.frame).event_type) ≡ true = sym c.is_row_event.ensures ∙ c.if-is_row_event.true in
    of_read e.fde (header_of e.frame).event_type (data_of e.fde.footer e.frame) c.read_data.result rows c.read_data.ensures

pub returns-else-is_row_event : goal.returns-else-is_row_event
returns-else-is_row_event c =
    let e = view_of c.args.event.now in
    sym (of_other_type e.fde (data_of e.fde.footer e.frame) (event_type_of (header_of e.frame).event_type) (sym c.is_row_event.ensures ∙ c.if-is_row_event.false))
