use Rattle.binlog_payload_visits.proofs.Splicing.{all_spliced}
use Rattle.binlog_payload_visits.proofs.laws.items_are_spliced.Goals as goal

pub returns : goal.returns
returns g c maps index items old new visited = all_spliced g.T.Visitor.visits g.T.PartVisitor.visits_part maps index items old new visited
