use Rattle.std.proofs.Common.{◌+◌, ◌-◌, ◌≤◌, ◌++◌, take, length, vec_len, vec_capacity}
use Rattle.binlog_maria_gtids.specs.LastGtids.{KeepLast, AreAscending}
use Rattle.binlog_maria_gtids.proofs.entries.add_all.Given as goal

-- The entries have the last of the GTIDs so far, and room for those that are left.
abbrev pub invariant-loop-gtid : goal.invariant-loop-gtid
invariant-loop-gtid l = record {
  ascending : AreAscending l.entries.items;
  kept : KeepLast (l.fn.entries.items ++ take l.gtid-index l.gtids) l.entries.items;
  room : vec_len l.entries + (length l.gtids - l.gtid-index) ≤ vec_capacity l.entries;
}
