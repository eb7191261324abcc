use Rattle.std.specs.Prelude.{option_copied}
use Rattle.binlog_events.specs.EventRefs.{view_of}
use Rattle.change_statistics.specs.Names.{name_of}
use Rattle.binlog_later_changes.proofs.KnownRows.{unmapped}
use Rattle.binlog_later_changes.proofs.known_rows.event_rows.Goals as goal

pub returns-in-Some : goal.returns-in-Some
returns-in-Some c = rw c.in-Some.is c.rows_if.ensures

pub returns-in-None : goal.returns-in-None
returns-in-None c = rw c.in-None.is (unmapped (view_of c.args.event.now) (name_of c.args.name.now) (option_copied c.args.rows))
