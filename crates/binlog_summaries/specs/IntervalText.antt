-- The text of statistics by time.
use Rattle.std.specs.Prelude.{◌≡◌, ℕ, List, [], ◌∷◌, ◌++◌, codes, decimal}
use Rattle.std.specs.BTreeMap.{btree_map_len}
use Rattle.binlog_summaries.specs.StatsText.{IsTime, number_line}
use Rattle.change_statistics.specs.Intervals.{seconds_of}
use Rattle.change_statistics.specs.declared.event_counts.EventCounts.{EventCounts}
use Rattle.change_statistics.specs.declared.intervals.IntervalStats.{IntervalStats}

-- When an interval begins.
abbrev pub IsStart : (start : ℕ) → List ℕ → Type 0
IsStart start text = (time : List ℕ) × IsTime start time × (text ≡ codes "time " ++ time ++ codes " ")

-- The counts of an interval, to the end of its line.
abbrev pub counts_text : EventCounts → List ℕ
counts_text counts =
    decimal counts.events ++ codes " events " ++ decimal counts.bytes ++ codes " bytes " ++ decimal counts.transactions ++ codes " transactions " ++ decimal counts.inserted ++ codes " inserted "
    ++ decimal counts.updated ++ codes " updated " ++ decimal counts.deleted ++ codes " deleted " ++ decimal counts.unread_events ++ codes " unread\n"

-- The line of an interval: when it begins, and its counts.
abbrev pub IsIntervalLine : ℕ × EventCounts → List ℕ → Type 0
IsIntervalLine entry text = (start : List ℕ) × IsStart entry.0 start × (text ≡ start ++ counts_text entry.1)

-- The lines of intervals one after another.
abbrev pub AreIntervalLines : List (ℕ × EventCounts) → List ℕ → Type 0
AreIntervalLines [] text = text ≡ []
AreIntervalLines (entry ∷ entries) text = (line rest : List ℕ) × IsIntervalLine entry line × AreIntervalLines entries rest × (text ≡ line ++ rest)

-- The lines above the intervals: how many there are, and how many seconds each has.
abbrev pub intervals_head : IntervalStats → List ℕ
intervals_head stats = number_line (codes "intervals") (btree_map_len stats.intervals) ++ number_line (codes "seconds") (seconds_of stats)

-- The whole text: the intervals are in ascending order.
abbrev pub IsIntervalsText : IntervalStats → List ℕ → Type 0
IsIntervalsText stats text = (lines : List ℕ) × AreIntervalLines stats.intervals.entries lines × (text ≡ intervals_head stats ++ lines)
