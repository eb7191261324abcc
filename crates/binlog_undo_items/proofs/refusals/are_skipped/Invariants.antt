use Rattle.std.proofs.Common.{length}
use Rattle.binlog_undo_log.specs.Files.{AreSkipped}
use Rattle.binlog_undo_items.proofs.refusals.are_skipped.Given as goal

-- All are skipped if those that are left are.
abbrev pub invariant-refusals : goal.invariant-refusals
invariant-refusals l = record {
  skipped : AreSkipped l.left → AreSkipped l.refusals;
  behind : AreSkipped l.refusals → AreSkipped l.left;
}

abbrev pub decreases-refusals : goal.decreases-refusals
decreases-refusals l = length l.left
