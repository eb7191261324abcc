use Rattle.change_statistics.proofs.HeldTables.{all_counted}
use Rattle.change_statistics.proofs.laws.table_counts_are_of_all_events.Goals as goal

pub returns : goal.returns
returns c = all_counted
