use Rattle.table_changes.specs.Changes.{table_of, removed}
use Rattle.table_changes.proofs.Applied.{applied_parts, applied_joined, is_there, some_state, one_last_state}
use Rattle.table_changes.proofs.laws.defined.Goals as goal

pub returns : goal.returns
returns g c = record {
  there = λ tables rows change old. (λ h. is_there (table_of change) (removed change) h.1.others old h.1.was, λ h. some_state tables rows change old h);
  one_state = λ tables rows changes old new other a b. one_last_state tables rows changes old new other a b;
  joined = λ before after old new. (λ h. applied_parts before after old new h, λ h. applied_joined before after old h.0 new h.1 h.2);
}
