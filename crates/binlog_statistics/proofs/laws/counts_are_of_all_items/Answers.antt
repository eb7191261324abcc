use Rattle.binlog_statistics.proofs.CountedItems.{counts_all}
use Rattle.binlog_statistics.proofs.laws.counts_are_of_all_items.Goals as goal

pub returns : goal.returns
returns g c = λ maps items old new visited. counts_all g.C.Counts.adds maps 0 items old new visited
