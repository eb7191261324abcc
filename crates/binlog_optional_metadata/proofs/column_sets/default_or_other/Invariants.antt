use Rattle.binlog_optional_metadata.proofs.ColumnSets.{AreSets}
use Rattle.binlog_optional_metadata.proofs.column_sets.default_or_other.Given as goal

-- The sets behind the pairs so far.
abbrev pub invariant-pairs : goal.invariant-pairs
invariant-pairs l = AreSets l.fn.is_maria_log l.fn.columns l.fn.collations.default_charset l.yielded l.sets.items
