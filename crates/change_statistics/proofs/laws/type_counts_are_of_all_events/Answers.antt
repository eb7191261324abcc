use Rattle.change_statistics.proofs.CountedTypes.{all_typed}
use Rattle.change_statistics.proofs.laws.type_counts_are_of_all_events.Goals as goal

pub returns : goal.returns
returns c = all_typed
