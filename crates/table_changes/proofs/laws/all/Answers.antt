use Rattle.table_changes.proofs.Inverses.{all_applied_back, inverses_twice, inverse-append}
use Rattle.table_changes.proofs.laws.all.Goals as goal

pub returns : goal.returns
returns g c = record {
  back = λ changes old new a. all_applied_back changes old new a;
  twice = λ changes. inverses_twice changes;
  joined = λ before after. inverse-append before after;
}
