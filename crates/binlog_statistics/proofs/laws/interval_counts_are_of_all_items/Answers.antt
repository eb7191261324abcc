use Rattle.change_statistics.specs.Intervals.{seconds_of, AddsByTime, AddsAllByTime}
use Rattle.change_statistics.specs.WholeIntervals.{AreIntervalStats}
use Rattle.change_statistics.proofs.HeldIntervals.{all_counted_by_time}
use Rattle.binlog_statistics.proofs.CountedItems.{counts_all, all_are}
use Rattle.binlog_statistics.proofs.laws.interval_counts_are_of_all_items.Goals as goal

pub returns : goal.returns
returns c = λ maps items old new empty visited room.
    all_are (λ facts stats. AddsAllByTime facts old.stats stats) (AreIntervalStats (seconds_of old.stats)) new.stats new.stats (λ facts added. all_counted_by_time facts old.stats new.stats empty added room)
    maps items (counts_all AddsByTime maps 0 items old new visited)
