use Rattle.binlog_json_values.proofs.DiffLists.{list_shown}
use Rattle.binlog_json_values.proofs.laws.diffs_are_shown.Goals as goal

pub returns : goal.returns
returns c = list_shown
