use Rattle.binlog_commands.proofs.CollectedGtids.{all_collected}
use Rattle.binlog_commands.proofs.laws.gtids_are_collected.Goals as goal

pub returns : goal.returns
returns g c = λ maps items old new empty none visited. all_collected g.W.WriteCounted.contents maps items old new empty none visited
