use Rattle.std.proofs.Common.{◌≡◌, map}
use Rattle.binlog_optional_metadata.specs.Stated.{set_numbered}
use Rattle.binlog_optional_metadata.proofs.column_sets.each.Given as goal

-- The sets so far.
abbrev pub invariant-collations : goal.invariant-collations
invariant-collations l = l.sets.items ≡ map (set_numbered l.fn.is_maria_log) l.yielded
