use Rattle.binlog_summaries.proofs.TableLines.{whole_line}
use Rattle.binlog_summaries.proofs.table_text.write_table.Goals as goal

pub returns : goal.returns
returns g c =
    let first = c.in_ok-write_time.ensures in
    let last = c.in_ok-write_time-2.ensures in
    whole_line c.writeln.result (c.args.name.now, c.args.counts.now) first.text last.text _ _ _ _ _ _ first.is last.is c.in_ok-write_names.ensures c.in_ok-write_counts.ensures first.appended last.appended c.writeln.ensures.bytes
