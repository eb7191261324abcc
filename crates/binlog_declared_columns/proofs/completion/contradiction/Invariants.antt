use Rattle.std.proofs.Common.{◌≡◌, ℕ, ◌<◌, true, map}
use Rattle.binlog_columns.specs.Columns.{typed_of}
use Rattle.column_files.specs.Tables.{described}
use Rattle.binlog_declared_columns.specs.Facts.{fits_at, all_facts}
use Rattle.binlog_declared_columns.proofs.completion.contradiction.Given as goal

-- The columns so far don't contradict the file.
abbrev pub invariant-loop-index : goal.invariant-loop-index
invariant-loop-index l = (index : ℕ) → index < l.index → fits_at l.is_maria_log l.states_signs (map typed_of l.columns) (all_facts l.facts) (map described l.declared) index ≡ true
