use Rattle.change_statistics.specs.Transactions.{seen_by}
use Rattle.binlog_summaries.proofs.TransactionLines.{whole_text}
use Rattle.binlog_summaries.proofs.transaction_text.write_transactions.Goals as goal

pub returns : goal.returns
returns g c =
    let lines = rw c.as_slice.ensures.value at c.write_lines.ensures in
    whole_text c.write_lines.result (seen_by c.args.stats.now) _ _ _ _ c.in_ok-write_number.ensures c.in_ok-write_sizes.ensures lines
