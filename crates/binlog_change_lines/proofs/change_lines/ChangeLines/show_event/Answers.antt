use Rattle.std.proofs.Common.{option_copied}
use Rattle.binlog_events.specs.EventRefs.{view_of}
use Rattle.binlog_change_lines.specs.Heads.{place_of}
use Rattle.binlog_change_lines.proofs.Shown.{shows_event}
use Rattle.binlog_change_lines.proofs.change_lines.ChangeLines.show_event.Goals as goal

pub returns-clause-shown : goal.returns-clause-shown
returns-clause-shown c =
    shows_event c.show_read.result c.args.files.now (place_of c.args.place.now) (view_of c.args.event.now) (option_copied c.args.table_map) c.args.read.now _
    c.requires c.show_read.ensures.read c.show_read.ensures.shown
