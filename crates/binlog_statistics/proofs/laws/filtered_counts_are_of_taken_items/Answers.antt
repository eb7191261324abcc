use Rattle.binlog_statistics.proofs.CountedItems.{counts_taken}
use Rattle.binlog_statistics.proofs.laws.filtered_counts_are_of_taken_items.Goals as goal

pub returns : goal.returns
returns g c = λ maps items old new visited. counts_taken g.C.Counts.adds maps 0 items old new visited
