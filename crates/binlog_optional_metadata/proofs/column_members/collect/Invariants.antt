use Rattle.std.proofs.Common.{◌≡◌}
use Rattle.binlog_optional_metadata.proofs.column_members.collect.Given as goal

-- The members so far.
abbrev pub invariant-members : goal.invariant-members
invariant-members l = l.texts.items ≡ l.yielded
