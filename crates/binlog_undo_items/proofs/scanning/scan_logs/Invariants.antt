use Rattle.std.proofs.Common.{◌≡◌, ◌≤◌, ◌-◌, length, map, take}
use Rattle.binlog_undo_items.specs.Scanned.{AreScannedFrom}
use Rattle.binlog_undo_items.proofs.scanning.scan_logs.Given as goal

-- The logs so far are scanned.
abbrev pub invariant-logs : goal.invariant-logs
invariant-logs l = record {
  within : l.index ≤ length l.logs;
  counted : length l.scanned.items ≡ l.index;
  bytes : map (λ log. log.bytes.now) l.scanned.items ≡ map (λ log. log.now) (take l.index l.logs);
  scanned : AreScannedFrom l.request (length l.logs) 0 l.scanned.items;
}

abbrev pub decreases-logs : goal.decreases-logs
decreases-logs l = length l.logs - l.index
