use Rattle.change_statistics.specs.Counting.{AddsEach}
use Rattle.change_statistics.specs.Transactions.{seen_by, ended}
use Rattle.change_statistics.specs.WholeTransactions.{AreTransactionStats}
use Rattle.binlog_statistics.proofs.CountedParts.{counts_spliced, spliced_are}
use Rattle.binlog_statistics.proofs.SeenTransactions.{Sees, all_seen}
use Rattle.binlog_statistics.proofs.laws.spliced_transaction_counts_are_of_all_items.Goals as goal

pub returns : goal.returns
returns c = λ limit maps items old new none visited.
    spliced_are (λ facts stats. AddsEach Sees facts old.visitor.stats stats) (AreTransactionStats limit) new.visitor.stats (ended (seen_by new.visitor.stats))
    (λ facts added. all_seen limit facts old.visitor.stats new.visitor.stats none added)
    old.limit maps items (counts_spliced Sees maps 0 items old new visited)
