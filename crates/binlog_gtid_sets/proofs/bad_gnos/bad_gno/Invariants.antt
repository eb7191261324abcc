use Rattle.std.proofs.Common.{◌≡◌, drop}
use Rattle.binlog_gtid_sets.specs.AddedGtids.{bad_gno}
use Rattle.binlog_gtid_sets.proofs.bad_gnos.bad_gno.Given as goal

-- The first number that isn't allowed is in an interval that is left.
abbrev pub invariant-loop-interval : goal.invariant-loop-interval
invariant-loop-interval l = bad_gno (drop l.interval-index l.intervals) ≡ bad_gno l.intervals
