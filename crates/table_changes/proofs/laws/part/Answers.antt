use Rattle.table_changes.proofs.Parts.{part_undone}
use Rattle.table_changes.proofs.laws.part.Goals as goal

pub returns : goal.returns
returns g c = λ tables rows log old new counts a h. part_undone tables rows log old new counts a h
