use Rattle.binary_json_writing.proofs.KnownPaths.{path_known, path_unknown}
use Rattle.binary_json_writing.proofs.laws.paths_are_known.Goals as goal

pub returns-clause-found : goal.returns-clause-found
returns-clause-found c = path_known

pub returns-clause-refused : goal.returns-clause-refused
returns-clause-refused c = path_unknown
