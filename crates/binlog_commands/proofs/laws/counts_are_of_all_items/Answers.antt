use Rattle.binlog_commands.proofs.WholeCounts.{all_counted}
use Rattle.binlog_commands.proofs.laws.counts_are_of_all_items.Goals as goal

pub returns : goal.returns
returns c = all_counted
