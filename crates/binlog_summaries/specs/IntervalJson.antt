-- The lines of JSON of statistics by time.
use Rattle.std.specs.Prelude.{ℕ, List, ◌++◌, flat_map, codes}
use Rattle.std.specs.BTreeMap.{btree_map_len}
use Rattle.json.specs.Token.{Token}
use Rattle.json_line.specs.Tokens.{object}
use Rattle.change_statistics.specs.Intervals.{seconds_of}
use Rattle.change_statistics.specs.declared.event_counts.EventCounts.{EventCounts}
use Rattle.change_statistics.specs.declared.intervals.IntervalStats.{IntervalStats}
use Rattle.binlog_summaries.specs.JsonLines.{number_member, line_of}

-- The members of the counts of an interval.
abbrev pub counts_members : EventCounts → List Token
counts_members counts =
    number_member (codes "events") counts.events ++ number_member (codes "bytes") counts.bytes ++ number_member (codes "transactions") counts.transactions
    ++ number_member (codes "inserted") counts.inserted ++ number_member (codes "updated") counts.updated ++ number_member (codes "deleted") counts.deleted
    ++ number_member (codes "unread_events") counts.unread_events

-- The object of an interval: its first second, since 1970, and its counts.
abbrev pub interval_object : ℕ × EventCounts → List Token
interval_object entry = object (number_member (codes "time") entry.0 ++ counts_members entry.1)

-- The object above the intervals: how many there are, and how many seconds each has.
abbrev pub intervals_object : IntervalStats → List Token
intervals_object stats = object (number_member (codes "intervals") (btree_map_len stats.intervals) ++ number_member (codes "seconds") (seconds_of stats))

abbrev pub interval_line : ℕ × EventCounts → List ℕ
interval_line entry = line_of (interval_object entry)

-- The whole text: the intervals are in ascending order.
abbrev pub intervals_json : IntervalStats → List ℕ
intervals_json stats = line_of (intervals_object stats) ++ flat_map interval_line stats.intervals.entries
