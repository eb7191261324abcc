use Rattle.binlog_json_values.proofs.DiffLists.{known_after}
use Rattle.binlog_json_values.proofs.laws.documents_after_are_known.Goals as goal

pub returns : goal.returns
returns c = known_after
