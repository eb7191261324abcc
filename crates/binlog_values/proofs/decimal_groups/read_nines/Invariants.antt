use Rattle.std.proofs.Common.{◌≡◌, ◌+◌, ◌*◌, length, take}
use Rattle.binlog_values.specs.Contents.{magnitude}
use Rattle.binlog_values.specs.DecimalGroups.{nines_at}
use Rattle.binlog_values.proofs.decimal_groups.read_nines.Given as goal

-- The groups so far are read.
abbrev pub invariant-groups : goal.invariant-groups
invariant-groups l = (length l.groups ≡ 7) × (l.place ≡ l.at + 4 * l.index) × (take l.index l.groups ≡ nines_at l.index l.at (magnitude l.bytes))
