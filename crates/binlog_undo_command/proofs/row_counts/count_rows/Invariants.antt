use Rattle.std.proofs.Common.{◌≤◌, length, drop}
use Rattle.change_statistics.specs.Tables.{AreEmpty}
use Rattle.change_statistics.specs.declared.tables.TableStats.{TableStats}
use Rattle.binlog_undo_command.specs.RowCounts.{CountsEach}
use Rattle.binlog_undo_command.proofs.row_counts.count_rows.Given as goal

-- The logs behind those that are left are counted.
abbrev pub invariant-logs : goal.invariant-logs
invariant-logs g l = record {
  within : l.left ≤ length l.scanned;
  done : (none : TableStats) × AreEmpty none × CountsEach (g.L.Logs.has_frames l.logs) g.L.Sought.Frames.is_at (drop l.left l.scanned) none l.rows.counter.stats;
}

abbrev pub decreases-logs : goal.decreases-logs
decreases-logs g l = l.left
