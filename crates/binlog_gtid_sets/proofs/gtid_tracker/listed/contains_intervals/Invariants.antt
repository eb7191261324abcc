use Rattle.std.proofs.Common.{◌≡◌, ◌<◌, ℕ, true, get_or}
use Rattle.binlog_gtids.specs.GnoSets.{is_within, is_held}
use Rattle.binlog_gtids.proofs.GnoSets.{interval}
use Rattle.binlog_gtid_sets.proofs.gtid_tracker.listed.contains_intervals.Given as goal

-- the set contains the numbers of the intervals so far
abbrev pub invariant-loop-interval : goal.invariant-loop-interval
invariant-loop-interval l = (k : ℕ) → k < l.interval-index → (n : ℕ) → is_within (get_or l.intervals k (interval 0 0)) n ≡ true → is_held l.gnos n ≡ true
