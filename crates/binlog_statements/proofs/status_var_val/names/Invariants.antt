use Rattle.std.proofs.Common.{◌≡◌, ◌+◌, ◌++◌, length, drop, Some, All}
use Rattle.std.specs.Prelude.{slice_index}
use Rattle.std.specs.List.{flat_map}
use Rattle.binlog_wire.specs.Fields.{HasNoZero}
use Rattle.binlog_statements.specs.Layouts.{ended, names_len}
use Rattle.binlog_statements.proofs.status_var_val.names.Given as goal

abbrev pub invariant-loop-left : goal.invariant-loop-left
invariant-loop-left l = record {
  counted : length l.names.items + l.left ≡ slice_index l.fn.raw 0;
  bytes : drop 1 l.fn.raw ≡ flat_map ended l.names.items ++ l.unread;
  whole : All HasNoZero l.names.items;
  rest : names_len l.left l.unread ≡ Some (length l.unread);
}

abbrev pub decreases-loop-left : goal.decreases-loop-left
decreases-loop-left l = l.left
