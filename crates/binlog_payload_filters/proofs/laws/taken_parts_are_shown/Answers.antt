use Rattle.binlog_payload_filters.proofs.ShownItems.{all_parts}
use Rattle.binlog_payload_filters.proofs.laws.taken_parts_are_shown.Goals as goal

pub returns : goal.returns
returns g c maps index number parts old new visited = all_parts g.T.PartVisitor.visits_part maps index number parts old new visited
