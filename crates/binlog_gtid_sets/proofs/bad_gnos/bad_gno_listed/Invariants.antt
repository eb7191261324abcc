use Rattle.std.proofs.Common.{◌≡◌, drop}
use Rattle.binlog_gtid_sets.specs.AddedGtids.{bad_gno_listed}
use Rattle.binlog_gtid_sets.proofs.bad_gnos.bad_gno_listed.Given as goal

-- The first number that isn't allowed is in an entry that is left.
abbrev pub invariant-loop-entry : goal.invariant-loop-entry
invariant-loop-entry l = bad_gno_listed (drop l.entry-index l.entries) ≡ bad_gno_listed l.entries
