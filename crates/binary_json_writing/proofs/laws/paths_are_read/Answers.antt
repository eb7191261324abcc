use Rattle.binary_json_writing.proofs.OnePath.{path_not_refused}
use Rattle.binary_json_writing.proofs.laws.paths_are_read.Goals as goal

pub returns : goal.returns
returns c = path_not_refused
