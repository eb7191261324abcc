use Rattle.binlog_gtid_sets.proofs.GtidDifferences.{ContainsFirst}
use Rattle.binlog_gtid_sets.proofs.gtid_tracker.GtidTracker.is_subset.Given as goal

-- the other set contains the numbers of the groups so far
abbrev pub invariant-loop-group : goal.invariant-loop-group
invariant-loop-group l = ContainsFirst l.group-items l.other l.group-index
