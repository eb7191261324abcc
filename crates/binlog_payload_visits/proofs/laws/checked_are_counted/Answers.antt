use Rattle.binlog_payload_visits.proofs.Counted.{all_checked}
use Rattle.binlog_payload_visits.proofs.laws.checked_are_counted.Goals as goal

pub returns : goal.returns
returns g c maps index items old new before was visited = all_checked g.T.Visitor.visits maps index items old new before was visited
