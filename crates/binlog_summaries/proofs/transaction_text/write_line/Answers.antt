use Rattle.binlog_summaries.proofs.TransactionLines.{whole_transaction}
use Rattle.binlog_summaries.proofs.transaction_text.write_line.Goals as goal

pub returns : goal.returns
returns g c =
    let first = c.in_ok-write_time.ensures in
    let last = c.in_ok-write_time-2.ensures in
    let named = rw c.as_str.ensures at c.in_ok-write_gtid.ensures in
    let end = rw c.duration.ensures at c.write_duration.ensures in
    whole_transaction c.write_duration.result c.args.transaction.now first.text last.text _ _ _ _ _ _ _ first.is last.is c.in_ok-write_places.ensures named c.in_ok-write_counts.ensures first.appended last.appended end
