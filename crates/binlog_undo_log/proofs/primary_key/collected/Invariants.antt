use Rattle.std.proofs.Common.{◌≡◌}
use Rattle.binlog_undo_log.proofs.primary_key.collected.Given as goal

-- The columns so far.
abbrev pub invariant-columns : goal.invariant-columns
invariant-columns l = l.known.items ≡ l.yielded
