use Rattle.std.proofs.Common.{refl}
use Rattle.change_statistics.specs.Names.{name_of}
use Rattle.binlog_later_changes.proofs.SeenEvents.{sees_kept}
use Rattle.binlog_later_changes.proofs.later_scan.LaterScan.note_kept.Goals as goal

pub returns-clause-ok : goal.returns-clause-ok
returns-clause-ok c = sees_kept c.args.self.now _ (name_of c.args.name) c.event-here.result c.event-here.ensures refl refl refl c.in_ok-change.ensures
