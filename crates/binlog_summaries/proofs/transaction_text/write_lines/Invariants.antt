use Rattle.std.proofs.Common.{take}
use Rattle.binlog_summaries.specs.StatsText.{Writes}
use Rattle.binlog_summaries.specs.TransactionText.{AreTransactionTexts}
use Rattle.binlog_summaries.proofs.transaction_text.write_lines.Given as goal

abbrev pub invariant-transactions : goal.invariant-transactions
invariant-transactions g l = Writes (AreTransactionTexts (take l.transaction-index l.transactions)) (g.W.Write.contents l.fn.output) (g.W.Write.contents l.output)
