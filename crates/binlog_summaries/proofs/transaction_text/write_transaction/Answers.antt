use Rattle.binlog_summaries.proofs.TransactionLines.{with_tables}
use Rattle.binlog_summaries.proofs.transaction_text.write_transaction.Goals as goal

pub returns : goal.returns
returns g c = with_tables c.write_tables.result c.args.transaction.now _ _ _ c.in_ok-write_line.ensures c.write_tables.ensures
