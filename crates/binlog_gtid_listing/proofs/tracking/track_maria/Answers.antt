use Rattle.std.proofs.Common.{sym, ◌∙◌}
use Rattle.binlog_events.specs.EventRefs.{view_of}
use Rattle.binlog_gtid_listing.proofs.Logged.{maria_added, maria_refused}
use Rattle.binlog_gtid_listing.proofs.tracking.track_maria.Goals as goal

pub returns-in-Ok-clause-tracks : goal.returns-in-Ok-clause-tracks
returns-in-Ok-clause-tracks g c = λ groups. maria_added c.args.index (view_of c.args.event.now) groups c.args.gtids.now c.add_maria_gtids.new.gtids (g.W.WriteCounted.contents c.args.output.now) c.requires c.in-Ok.ensures

pub returns-in_ok-write_error-in-Err-clause-tracks : goal.returns-in_ok-write_error-in-Err-clause-tracks
returns-in_ok-write_error-in-Err-clause-tracks g c = λ groups.
    maria_refused c.args.index (view_of c.args.event.now) groups c.args.gtids.now c.add_maria_gtids.new.gtids (g.W.WriteCounted.contents c.args.output.now) (g.W.WriteCounted.contents c.write_error.new.output) c.in-Err.error c.requires c.in-Err.ensures
    (sym c.is_environment_error.ensures ∙ c.if-is_environment_error.false) c.in_ok-write_error-in-Err.ensures.writes
