use Rattle.table_changes.proofs.Applied.{applied_parts}
use Rattle.table_changes.proofs.Inverses.{all_applied_back}
use Rattle.table_changes.proofs.laws.front.Goals as goal

pub returns : goal.returns
returns g c = λ before after old new a. let h = applied_parts before after old new a in (h.0, h.1, all_applied_back after h.0 new h.2)
