use Rattle.std.proofs.Common.{◌≡◌}
use Rattle.binlog_declared_columns.proofs.known_facts.kept.Given as goal

-- The columns so far.
abbrev pub invariant-columns : goal.invariant-columns
invariant-columns l = l.kept.items ≡ l.yielded
