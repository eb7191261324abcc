use Rattle.change_statistics.specs.Intervals.{seconds_of, AddsByTime, AddsAllByTime}
use Rattle.change_statistics.specs.WholeIntervals.{AreIntervalStats}
use Rattle.change_statistics.proofs.HeldIntervals.{all_counted_by_time}
use Rattle.binlog_statistics.proofs.CountedParts.{counts_spliced, spliced_are}
use Rattle.binlog_statistics.proofs.laws.spliced_interval_counts_are_of_all_items.Goals as goal

pub returns : goal.returns
returns c = λ maps items old new empty visited room.
    spliced_are (λ facts stats. AddsAllByTime facts old.visitor.stats stats) (AreIntervalStats (seconds_of old.visitor.stats)) new.visitor.stats new.visitor.stats
    (λ facts added. all_counted_by_time facts old.visitor.stats new.visitor.stats empty added room)
    old.limit maps items (counts_spliced AddsByTime maps 0 items old new visited)
