use Rattle.std.proofs.Common.{◌≡◌, ◌||◌, ℕ, None, drop}
use Rattle.binlog_gtid_sets.specs.AddedGtids.{bad_gno_listed, is_listed}
use Rattle.binlog_gtid_sets.specs.GtidGroups.{Pair, is_tracked}
use Rattle.binlog_gtid_sets.proofs.gtid_tracker.GtidTracker.insert_entries.Given as goal

-- The set so far and the entries that are left are the whole.
abbrev pub invariant-loop-place : goal.invariant-loop-place
invariant-loop-place l = record {
  good : bad_gno_listed (drop l.place l.entries) ≡ None;
  whole : (q : Pair) (n : ℕ) → (is_listed (drop l.place l.entries) q n || is_tracked l.self q n) ≡ (is_listed l.entries q n || is_tracked l.fn.self q n);
}
