use Rattle.binlog_later_changes.proofs.SeenLogs.{whole_if}
use Rattle.binlog_later_changes.proofs.finding.visit_whole.Goals as goal

pub returns : goal.returns
returns g c =
    whole_if c.end.result (g.R.ReadCounted.remaining c.args.input.now) c.args.scan.now c.visit_log.new.scan c.end.new.self c.in_ok-tail_len.tail_len c.in_ok-tail_len.ensures
    c.end.ensures.ok
