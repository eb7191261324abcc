use Rattle.std.proofs.Common.{◌≡◌, true, false, length}
use Rattle.binlog_undo_index.specs.Parts.{parts_of}
use Rattle.binlog_undo_log.specs.Files.{AreSkipped}
use Rattle.binlog_undo_command.proofs.scanning.report.Given as goal

-- All are skipped if those so far and those that are left are.
abbrev pub invariant-refusals : goal.invariant-refusals
invariant-refusals g l = record {
  skipped : l.is_refused ≡ false → AreSkipped l.left → AreSkipped (parts_of l.index).refusals;
  refused : l.is_refused ≡ true → AreSkipped (parts_of l.index).refusals → ⊥;
  behind : AreSkipped (parts_of l.index).refusals → AreSkipped l.left;
}

abbrev pub decreases-refusals : goal.decreases-refusals
decreases-refusals g l = length l.left
