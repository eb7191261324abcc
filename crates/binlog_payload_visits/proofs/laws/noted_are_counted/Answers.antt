use Rattle.binlog_payload_visits.proofs.Counted.{all_noted}
use Rattle.binlog_payload_visits.proofs.laws.noted_are_counted.Goals as goal

pub returns : goal.returns
returns g c maps index items old new before was visited = all_noted g.T.Visitor.visits g.T.PartVisitor.visits_part maps index items old new before was visited
