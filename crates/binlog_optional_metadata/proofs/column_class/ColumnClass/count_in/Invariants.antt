use Rattle.std.proofs.Common.{◌≡◌, ◌+◌, ◌<◌, ◌^◌, length}
use Rattle.binlog_columns.specs.TableColumns.{columns_of}
use Rattle.binlog_optional_metadata.specs.Classes.{class_count}
use Rattle.binlog_optional_metadata.proofs.column_class.ColumnClass.count_in.Given as goal

abbrev pub invariant-loop-column : goal.invariant-loop-column
invariant-loop-column l = record {
  can : goal.iterator-loop-column.can_next l.column-iterator;
  finite : goal.iterator-loop-column.is_finite l.column-iterator;
  so_far : l.count + class_count l.self (columns_of l.column-iterator) ≡ class_count l.self (columns_of l.fn.columns);
  in_range : l.count + length (columns_of l.column-iterator) < 2 ^ 64;
}
