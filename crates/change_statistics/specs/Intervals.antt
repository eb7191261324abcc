-- Counting events by time, fact by fact.
use Rattle.std.specs.Prelude.{◌≡◌, ◌⊎◌, ℕ, ◌+◌, ◌-◌, ◌%◌, ◌<◌, ◌≤◌, ◌==◌, true, false, List, [], Option, Some, None, IsSome, is_some, unwrap_or, if◌then◌else◌}
use Rattle.std.specs.BTreeMap.{get, btree_map_len, IsOrdered}
use Rattle.std.specs.Int.NonZero.{non_zero_u32_get}
use Rattle.std.specs.Ordering.{nat_cmp}
use Rattle.change_statistics.specs.Facts.{Fact}
use Rattle.change_statistics.specs.Counting.{AddsEach}
use Rattle.change_statistics.specs.EventCounting.{no_event_counts, with_event}
use Rattle.change_statistics.specs.declared.event_counts.EventCounts.{EventCounts}
use Rattle.change_statistics.specs.declared.intervals.IntervalStats.{IntervalStats}

-- The greatest number of intervals.
abbrev pub max_intervals : ℕ
max_intervals = 1048576

-- How many seconds an interval has.
abbrev pub seconds_of : IntervalStats → ℕ
seconds_of stats = non_zero_u32_get stats.seconds

-- The first second of the interval in which a time is. Intervals begin at the multiples of their seconds.
abbrev pub start_of : (seconds time : ℕ) → ℕ
start_of seconds time = time - time % seconds

-- The counts of the interval that begins then, if it has some.
abbrev pub counts_of : IntervalStats → (start : ℕ) → Option EventCounts
counts_of stats start = get nat_cmp stats.intervals start

-- The number of intervals.
abbrev pub interval_count : IntervalStats → ℕ
interval_count stats = btree_map_len stats.intervals

-- Nothing is counted.
pub record CountsNoInterval (stats : IntervalStats) : Type 0 where
  pub intervals : stats.intervals.entries ≡ []
  pub is_full : stats.is_full ≡ false

-- The same counts of all intervals.
pub record AreSameIntervals (old new : IntervalStats) : Type 0 where
  pub intervals : new.intervals.entries ≡ old.intervals.entries
  pub seconds : new.seconds ≡ old.seconds
  pub is_full : new.is_full ≡ old.is_full

-- The interval that begins then has these counts, and the others are as before. They ascend.
pub record PutsInterval (old : IntervalStats) (start : ℕ) (counts : EventCounts) (new : IntervalStats) : Type 0 where
  pub intervals : (other : ℕ) → counts_of new other ≡ (if start == other then Some counts else counts_of old other)
  pub number : interval_count new ≡ interval_count old + (if is_some (counts_of old start) then 0 else 1)
  pub ordered : IsOrdered nat_cmp new.intervals
  pub seconds : new.seconds ≡ old.seconds
  pub is_full : new.is_full ≡ old.is_full

-- The event is counted in the interval that begins then. There is room for it.
abbrev pub AddsToInterval : IntervalStats → (start : ℕ) → Fact → IntervalStats → Type 0
AddsToInterval old start fact new =
    (IsSome (counts_of old start) ⊎ (interval_count old < max_intervals))
    × PutsInterval old start (with_event (unwrap_or (counts_of old start) no_event_counts) fact.bytes fact) new

-- There is no room for the interval that begins then. Nothing is counted.
abbrev pub HasNoIntervalLeft : IntervalStats → (start : ℕ) → IntervalStats → Type 0
HasNoIntervalLeft old start new = (counts_of old start ≡ None) × (max_intervals ≤ interval_count old) × (new ≡ record old { is_full = true })

-- The facts of an event are counted, unless there was no room for an interval before.
abbrev pub AddsByTime : IntervalStats → Fact → IntervalStats → Type 0
AddsByTime old fact new =
    ((old.is_full ≡ true) × (new ≡ old))
    ⊎ ((old.is_full ≡ false)
    × (AddsToInterval old (start_of (seconds_of old) fact.time) fact new ⊎ HasNoIntervalLeft old (start_of (seconds_of old) fact.time) new))

-- The facts of events one after another are counted.
abbrev pub AddsAllByTime : List Fact → IntervalStats → IntervalStats → Type 0
AddsAllByTime = AddsEach AddsByTime
