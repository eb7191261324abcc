use Rattle.binlog_payload_filters.proofs.ShownItems.{as_filtered}
use Rattle.binlog_payload_filters.proofs.laws.as_filtered_without_tables.Goals as goal

pub returns : goal.returns
returns g c maps index items old new none visited = as_filtered g.T.Visitor.visits maps index items old new none visited
