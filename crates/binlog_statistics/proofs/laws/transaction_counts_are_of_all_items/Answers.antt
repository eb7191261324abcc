use Rattle.change_statistics.specs.Counting.{AddsEach}
use Rattle.change_statistics.specs.Transactions.{seen_by, ended}
use Rattle.change_statistics.specs.WholeTransactions.{AreTransactionStats}
use Rattle.binlog_statistics.proofs.CountedItems.{counts_all, all_are}
use Rattle.binlog_statistics.proofs.SeenTransactions.{Sees, all_seen}
use Rattle.binlog_statistics.proofs.laws.transaction_counts_are_of_all_items.Goals as goal

pub returns : goal.returns
returns c = λ limit maps items old new none visited.
    all_are (λ facts stats. AddsEach Sees facts old.stats stats) (AreTransactionStats limit) new.stats (ended (seen_by new.stats)) (λ facts added. all_seen limit facts old.stats new.stats none added)
    maps items (counts_all Sees maps 0 items old new visited)
