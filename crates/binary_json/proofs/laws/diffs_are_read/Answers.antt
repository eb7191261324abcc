use Rattle.binary_json.proofs.DiffGrammar.{diffs_complete, diffs_sound}
use Rattle.binary_json.proofs.laws.diffs_are_read.Goals as goal

pub returns : goal.returns
returns c = λ bytes ds. (diffs_complete ds bytes, diffs_sound ds bytes)
