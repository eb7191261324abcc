use Rattle.character_sets.proofs.LawsOfTexts.{is_std_utf8}
use Rattle.character_sets.proofs.laws.is_std_utf8.Goals as goal

pub returns : goal.returns
returns c = is_std_utf8
