use Rattle.std.proofs.Common.{◌≡◌, rules, string_bytes}
use Rattle.binlog_event_format.specs.Headers.{header_of}
use Rattle.binlog_events.specs.EventRefs.{view_of}
use Rattle.binlog_statistics.proofs.TransactionGtids.{followed}
use Rattle.binlog_statistics.proofs.transaction_gtids.follow_gtid.Goals as goal

pub returns-clause-ok : goal.returns-clause-ok
returns-clause-ok c =
    let event = view_of c.args.event.now in
    let server : c.server_id.result ≡ (header_of event.frame).server_id = search rules in
    followed (string_bytes c.args.text.now) event c.read_log_data-read.result c.write_read-written.result (string_bytes c.write_read-written.new.text) (search rules) c.read_log_data-read.ensures (rw server at c.write_read-written.ensures.ok)
