use Rattle.std.proofs.Common.{◌≡◌, rules}
use Rattle.binlog_event_format.specs.Headers.{header_of}
use Rattle.binlog_file.specs.EventRefs.{view_of}
use Rattle.binlog_filters.proofs.Followed.{wanted_as}
use Rattle.binlog_filters.proofs.filter.Filter.wants_event.Goals as goal

pub returns-clause-ok : goal.returns-clause-ok
returns-clause-ok c =
    let event = view_of c.args.event.now in
    let server : c.server_id.result ≡ (header_of event.frame).server_id = search rules in
    wanted_as c.args.self.now event c.read_log_data-read.result c.wants_read-answer.result c.read_log_data-read.ensures (rw server at c.wants_read-answer.ensures.ok)
