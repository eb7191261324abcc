use Rattle.binlog_payload_filters.proofs.ShownItems.{all_shown}
use Rattle.binlog_payload_filters.proofs.laws.taken_are_shown.Goals as goal

pub returns : goal.returns
returns g c maps index items old new visited = all_shown g.T.Visitor.visits maps index items old new visited
