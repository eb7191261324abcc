use Rattle.std.proofs.Common.{◌<◌, length, arith}
use Rattle.binlog_summaries.proofs.TransactionLines.{transaction_written}
use Rattle.binlog_summaries.proofs.transaction_text.write_lines.Goals as goal

pub transactions-preserved : goal.transactions-preserved
transactions-preserved g c =
    let within : c.transactions.transaction-index < length c.args.transactions.now = omega arith in
    transaction_written c.args.transactions.now c.transactions.transaction-index c.transaction-item.result _ _ _ within c.transaction-item.is c.transactions.invariant c.in_ok-write_transaction.ensures
