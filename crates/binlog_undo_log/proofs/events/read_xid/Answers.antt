use Rattle.std.proofs.Common.{inl, refl}
use Rattle.binlog_events.specs.EventRefs.{view_of}
use Rattle.binlog_undo_log.proofs.ReadBodies.{reads_xid}
use Rattle.binlog_undo_log.proofs.events.read_xid.Goals as goal

pub returns-in-Ok : goal.returns-in-Ok
returns-in-Ok c = inl (c.requires, (c.in-Ok.body, reads_xid (view_of c.args.event.now) c.in-Ok.body c.requires c.in-Ok.ensures.exact, refl))
