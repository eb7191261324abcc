use Rattle.std.proofs.Common.{◌≡◌, ◌≤◌, ◌-◌, length}
use Rattle.binlog_statements.specs.Layouts.{names_len, plus}
use Rattle.binlog_statements.proofs.layout.names_len.Given as goal

abbrev pub invariant-loop-left : goal.invariant-loop-left
invariant-loop-left l = record {
  left : length l.unread ≤ length l.fn.bytes;
  same : names_len l.fn.count l.fn.bytes ≡ plus (length l.fn.bytes - length l.unread) (names_len l.left l.unread);
}

abbrev pub decreases-loop-left : goal.decreases-loop-left
decreases-loop-left l = l.left
