use Rattle.std.proofs.Common.{option_copied, sym}
use Rattle.binlog_events.specs.EventRefs.{view_of}
use Rattle.binlog_change_lines.proofs.Shown.{without_bytes, with_bytes}
use Rattle.binlog_change_lines.specs.Heads.{place_of}
use Rattle.binlog_change_lines.proofs.change_lines.ChangeLines.show_rows.Goals as goal

pub returns-then-is_empty : goal.returns-then-is_empty
returns-then-is_empty c =
    without_bytes c.args.files.now (place_of c.args.place.now) (view_of c.args.event.now) (option_copied c.args.table_map) c.args.body.now c.rows_data.result.now _
    c.rows_data.ensures (sym c.if-is_empty.ensures)

pub returns : goal.returns
returns c =
    with_bytes c.show_some_rows.result c.args.files.now (place_of c.args.place.now) (view_of c.args.event.now) (option_copied c.args.table_map) c.args.body.now c.rows_data.result.now _
    c.rows_data.ensures (sym c.if-is_empty.ensures) c.show_some_rows.ensures
