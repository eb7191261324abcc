use Rattle.binlog_json_values.proofs.DiffLists.{others_hidden}
use Rattle.binlog_json_values.proofs.laws.other_lists_are_digits.Goals as goal

pub returns : goal.returns
returns c = others_hidden
