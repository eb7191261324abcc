use Rattle.binary_json_writing.proofs.OnePath.{one_document}
use Rattle.binary_json_writing.proofs.laws.diffs_make_one_value.Goals as goal

pub returns : goal.returns
returns c = one_document
