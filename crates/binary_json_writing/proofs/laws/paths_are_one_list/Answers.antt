use Rattle.binary_json_writing.proofs.OnePath.{one_path}
use Rattle.binary_json_writing.proofs.laws.paths_are_one_list.Goals as goal

pub returns : goal.returns
returns c = one_path
