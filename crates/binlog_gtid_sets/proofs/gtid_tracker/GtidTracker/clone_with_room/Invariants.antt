use Rattle.std.proofs.Common.{◌≡◌, take}
use Rattle.binlog_gtid_sets.proofs.gtid_tracker.GtidTracker.clone_with_room.Given as goal

abbrev pub invariant-loop-group : goal.invariant-loop-group
invariant-loop-group l = l.groups.items ≡ take l.group-index l.group-items
