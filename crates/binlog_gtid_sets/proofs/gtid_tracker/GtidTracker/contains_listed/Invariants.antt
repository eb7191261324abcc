use Rattle.binlog_gtid_sets.proofs.GtidDifferences.{ContainsEntries}
use Rattle.binlog_gtid_sets.proofs.gtid_tracker.GtidTracker.contains_listed.Given as goal

-- the set contains the numbers of the entries so far
abbrev pub invariant-loop-entry : goal.invariant-loop-entry
invariant-loop-entry l = ContainsEntries l.entries l.self l.entry-index
