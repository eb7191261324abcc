use Rattle.character_sets.proofs.Reading.{texts_are_read}
use Rattle.character_sets.proofs.laws.texts_are_read.Goals as goal

pub returns : goal.returns
returns c = texts_are_read
