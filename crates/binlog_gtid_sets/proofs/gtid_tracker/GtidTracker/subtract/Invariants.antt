use Rattle.std.proofs.Common.{◌≡◌, ◌<◌, ◌≤◌, ◌&&◌, ◌||◌, ℕ, not, drop, length, get_or}
use Rattle.binlog_gtid_sets.specs.declared.gtid_group.GtidGroup.{GtidGroup}
use Rattle.binlog_gtid_sets.specs.GtidGroups.{Pair, pair_in, is_tracked, AreGroups, AreBelow}
use Rattle.binlog_gtid_sets.proofs.gtid_tracker.GtidTracker.subtract.Given as goal

-- the difference so far, with what is missing in the groups to come, is the whole difference
abbrev pub invariant-loop-group : goal.invariant-loop-group
invariant-loop-group l = record {
  are : AreGroups l.groups.items;
  below : (k : ℕ) (d : GtidGroup) → l.group-index ≤ k → k < length l.group-items → AreBelow l.groups.items (pair_in (get_or l.group-items k d));
  whole : (q : Pair) (n : ℕ) → (is_tracked l.groups.items q n || (is_tracked (drop l.group-index l.group-items) q n && not (is_tracked l.other q n))) ≡ (is_tracked l.group-items q n && not (is_tracked l.other q n));
}
