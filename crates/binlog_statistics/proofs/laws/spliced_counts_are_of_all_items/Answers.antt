use Rattle.binlog_statistics.proofs.CountedParts.{counts_spliced}
use Rattle.binlog_statistics.proofs.laws.spliced_counts_are_of_all_items.Goals as goal

pub returns : goal.returns
returns g c = λ maps items old new visited. counts_spliced g.C.Counts.adds maps 0 items old new visited
