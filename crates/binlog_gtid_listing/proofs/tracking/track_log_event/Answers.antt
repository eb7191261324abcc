use Rattle.binlog_gtid_listing.proofs.tracking.track_log_event.Goals as goal

pub returns-then-has_maria_gtids-clause-tracks : goal.returns-then-has_maria_gtids-clause-tracks
returns-then-has_maria_gtids-clause-tracks g c = c.track_maria.ensures.tracks c.args.gtids.now.mysql
