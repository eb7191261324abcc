use Rattle.character_sets.proofs.LawsOfTexts.{by_table}
use Rattle.character_sets.proofs.laws.by_table.Goals as goal

pub returns : goal.returns
returns c = by_table
