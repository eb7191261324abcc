use Rattle.std.proofs.Common.{sym}
use Rattle.std.specs.Prelude.{option_copied}
use Rattle.binlog_events.specs.EventRefs.{view_of}
use Rattle.binlog_json_lines.specs.Options.{options_of}
use Rattle.binlog_json_lines.proofs.Rows.{data_alone}
use Rattle.binlog_json_lines.proofs.row_members.RowsWriter.write_members.Goals as goal

pub write_read_rows-requires : goal.write_read_rows-requires
write_read_rows-requires c = sym (rw c.in-Some.is at c.requires)

pub returns-in_ok-write_data_member-in-None : goal.returns-in_ok-write_data_member-in-None
returns-in_ok-write_data_member-in-None c =
    data_alone (options_of c.args.options.now) (view_of c.args.event.now) (option_copied c.args.table_map) c.args.line.now c.write_data_member.new.line
    (sym (rw c.in-None.is at c.requires)) c.in_ok-write_data_member-in-None.ensures
