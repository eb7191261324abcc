use Rattle.std.proofs.Common.{◌≡◌, ◌++◌, map, drop}
use Rattle.binlog_images.specs.StoredColumns.{column_of}
use Rattle.binlog_later_changes.specs.RowKeys.{row_code}
use Rattle.binlog_later_changes.proofs.row_key.push_columns.Given as goal

-- The bytes so far, with those of the columns that are left, are those of all.
abbrev pub invariant-loop-index : goal.invariant-loop-index
invariant-loop-index l = l.code.items ++ row_code (map column_of (drop l.index l.columns)) ≡ l.fn.code.items ++ row_code (map column_of l.columns)
