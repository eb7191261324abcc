use Rattle.character_sets.proofs.LawsOfTexts.{texts_join}
use Rattle.character_sets.proofs.laws.texts_join.Goals as goal

pub returns : goal.returns
returns c = texts_join
