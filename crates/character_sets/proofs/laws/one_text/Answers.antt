use Rattle.character_sets.proofs.LawsOfTexts.{one_text}
use Rattle.character_sets.proofs.laws.one_text.Goals as goal

pub returns : goal.returns
returns c = one_text
