use Rattle.std.proofs.Common.{◌↔◌, take, subst}
use Rattle.std.specs.Prelude.{option_copied, IsTrue}
use Rattle.binlog_event_format.specs.declared.format_description.FormatDescriptionEvent.{FormatDescriptionEvent}
use Rattle.binlog_events.specs.EventRefs.{view_of}
use Rattle.binlog_mariadb.specs.Flavour.{IsMariaVersion}
use Rattle.binlog_json_lines.specs.Options.{options_of}
use Rattle.binlog_json_lines.specs.RowMembers.{IsFlavour}
use Rattle.binlog_json_lines.proofs.Rows.{rows_and_data}
use Rattle.binlog_json_lines.proofs.row_members.RowsWriter.write_read_rows.Goals as goal

pub returns : goal.returns
returns c =
    let e = view_of c.args.event.now in
    let flavour : IsFlavour e c.is_maria_log.result =
    subst (λ (d : FormatDescriptionEvent). IsTrue c.is_maria_log.result ↔ IsMariaVersion (take 50 d.server_version)) c.fde.ensures c.is_maria_log.ensures in
    let members = rw (c.deref.ensures.value, c.map_for.ensures) at c.in_ok-shown.ensures in
    rows_and_data (options_of c.args.options.now) e c.is_maria_log.result (option_copied c.args.table_map) c.args.body.now c.in_ok-shown.shown c.has_stored_rows-has_stored_rows.result
    c.args.line.now c.write_event.new.line c.key.new.self c.write_row_event.new.line c.requires flavour c.has_stored_rows-has_stored_rows.ensures members c.in_ok-key.ensures.added
    c.in_ok-write_row_event.ensures
