use Rattle.binary_json.proofs.DiffGrammar.{one_list}
use Rattle.binary_json.proofs.laws.diffs_are_one_list.Goals as goal

pub returns : goal.returns
returns c = one_list
