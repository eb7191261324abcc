use Rattle.binlog_commands.proofs.WholeCounts.{all_tallied}
use Rattle.binlog_commands.proofs.laws.tallies_are_of_all_items.Goals as goal

pub returns : goal.returns
returns c = all_tallied
