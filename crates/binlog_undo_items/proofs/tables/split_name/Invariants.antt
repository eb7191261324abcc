use Rattle.std.proofs.Common.{◌≤◌, ◌-◌, length, take}
use Rattle.binlog_undo_items.specs.Tables.{HasNoZero}
use Rattle.binlog_undo_items.proofs.tables.split_name.Given as goal

-- No byte so far is zero.
abbrev pub invariant-name : goal.invariant-name
invariant-name l = record {
  within : l.len ≤ length l.text;
  none : HasNoZero (take l.len l.text);
}

abbrev pub decreases-name : goal.decreases-name
decreases-name l = length l.text - l.len
