use Rattle.std.proofs.Common.{◌≡◌, ◌&&◌, ◌||◌, ℕ, None, drop}
use Rattle.std.specs.Prelude.{option_copied}
use Rattle.binlog_gtids.specs.GnoSets.{is_held}
use Rattle.binlog_gtid_sets.specs.AddedGtids.{bad_gno}
use Rattle.binlog_gtid_sets.specs.GtidGroups.{Pair, pair_of, is_same, is_tracked}
use Rattle.binlog_gtid_sets.proofs.gtid_tracker.GtidTracker.insert_intervals.Given as goal

-- The set so far and the intervals that are left are the whole.
abbrev pub invariant-loop-interval : goal.invariant-loop-interval
invariant-loop-interval l = record {
  good : bad_gno (drop l.interval-index l.intervals) ≡ None;
  whole : (q : Pair) (n : ℕ) → ((is_same (pair_of l.sid (option_copied l.tag)) q && is_held (drop l.interval-index l.intervals) n) || is_tracked l.self q n) ≡ ((is_same (pair_of l.sid (option_copied l.tag)) q && is_held l.intervals n) || is_tracked l.fn.self q n);
}
