use Rattle.binary_json_lines.proofs.Trees.{written_tree}
use Rattle.binary_json_lines.proofs.laws.what_is_written_is_json.Goals as goal

pub returns : goal.returns
returns c = λ v s h. written_tree v s h
