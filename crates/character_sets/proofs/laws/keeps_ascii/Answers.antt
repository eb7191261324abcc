use Rattle.character_sets.proofs.LawsOfTexts.{keeps_ascii}
use Rattle.character_sets.proofs.laws.keeps_ascii.Goals as goal

pub returns : goal.returns
returns c = keeps_ascii
