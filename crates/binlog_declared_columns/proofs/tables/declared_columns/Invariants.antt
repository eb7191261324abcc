use Rattle.std.proofs.Common.{◌≡◌, length, map}
use Rattle.column_files.specs.Tables.{described}
use Rattle.binlog_declared_columns.specs.Tables.{first_of, columns_in}
use Rattle.binlog_declared_columns.proofs.tables.declared_columns.Given as goal

-- The columns of the files that are left, or else those that were found.
abbrev pub invariant-loop-file : goal.invariant-loop-file
invariant-loop-file l = first_of (columns_in l.rest l.schema l.table) (map described l.found) ≡ columns_in l.files l.schema l.table

abbrev pub decreases-loop-file : goal.decreases-loop-file
decreases-loop-file l = length l.rest
