use Rattle.binlog_summaries.proofs.WholeStats.{whole_text}
use Rattle.binlog_summaries.proofs.stats_text.write_stats.Goals as goal

pub returns : goal.returns
returns g c =
    let first = c.in_ok-write_time.ensures in
    let last = c.in_ok-write_time-2.ensures in
    whole_text c.write_rows.result c.args.stats.now c.all_bytes-bytes.result first.text last.text _ _ _ _ _ _ c.all_bytes-bytes.ensures first.is last.is
    c.in_ok-write_head.ensures first.appended last.appended c.in_ok-write_largest.ensures c.write_rows.ensures
