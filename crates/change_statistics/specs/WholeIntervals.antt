-- The statistics by time of whole lists of facts.
use Rattle.std.specs.Prelude.{◌≡◌, ◌≢◌, ℕ, ◌==◌, Bool, List, [], filter, MatchOption}
use Rattle.std.specs.BTreeMap.{IsOrdered}
use Rattle.std.specs.Ordering.{nat_cmp}
use Rattle.change_statistics.specs.Facts.{Fact}
use Rattle.change_statistics.specs.Intervals.{seconds_of, start_of, counts_of}
use Rattle.change_statistics.specs.WholeCounts.{bytes}
use Rattle.change_statistics.specs.WholeEvents.{AreEventCounts}
use Rattle.change_statistics.specs.declared.intervals.IntervalStats.{IntervalStats}

-- The event's time lies in the interval that begins then, where an interval has so many seconds.
abbrev pub lies_in : (seconds start : ℕ) → Fact → Bool
lies_in seconds start fact = start_of seconds fact.time == start

-- Those of the events whose times lie in the interval.
abbrev pub of_interval : (seconds start : ℕ) → List Fact → List Fact
of_interval seconds start facts = filter (lies_in seconds start) facts

-- The statistics are those of all events, in intervals of so many seconds: exactly the intervals in which the time of an event lies have
-- counts, in ascending order.
pub record AreIntervalStats (seconds : ℕ) (facts : List Fact) (stats : IntervalStats) : Type 0 where
  pub width : seconds_of stats ≡ seconds
  pub intervals : (start : ℕ) → MatchOption (counts_of stats start) (of_interval seconds start facts ≡ []) (λ counts. (of_interval seconds start facts ≢ []) × AreEventCounts bytes (of_interval seconds start facts) counts)
  pub ordered : IsOrdered nat_cmp stats.intervals
