use Rattle.binlog_json_values.proofs.JsonDocuments.{others_hidden}
use Rattle.binlog_json_values.proofs.laws.other_bytes_are_digits.Goals as goal

pub returns : goal.returns
returns c = others_hidden
