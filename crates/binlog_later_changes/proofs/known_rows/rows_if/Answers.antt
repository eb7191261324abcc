use Rattle.binlog_events.specs.EventRefs.{view_of}
use Rattle.change_statistics.specs.Names.{name_of}
use Rattle.binlog_later_changes.proofs.KnownRows.{no_rows}
use Rattle.binlog_later_changes.proofs.known_rows.rows_if.Goals as goal

pub returns-in-Some : goal.returns-in-Some
returns-in-Some c = rw c.in-Some.is c.mapped_rows.ensures

pub returns-in-None : goal.returns-in-None
returns-in-None c = rw c.in-None.is (no_rows (view_of c.args.event.now) c.args.map.now (name_of c.args.name.now))
