use Rattle.change_statistics.proofs.HeldIntervals.{all_counted_by_time}
use Rattle.change_statistics.proofs.laws.interval_counts_are_of_all_events.Goals as goal

pub returns : goal.returns
returns c = all_counted_by_time
