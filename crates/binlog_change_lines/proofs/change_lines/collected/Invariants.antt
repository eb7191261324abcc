use Rattle.std.proofs.Common.{◌≡◌}
use Rattle.binlog_change_lines.proofs.change_lines.collected.Given as goal

-- The columns so far.
abbrev pub invariant-columns : goal.invariant-columns
invariant-columns l = l.kept.items ≡ l.yielded
