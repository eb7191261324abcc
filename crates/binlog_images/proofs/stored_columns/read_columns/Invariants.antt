use Rattle.std.proofs.Common.{◌≡◌, ◌+◌, ◌≤◌, ◌++◌, length, map, None}
use Rattle.binlog_columns.specs.TableColumns.{columns_of}
use Rattle.binlog_images.specs.BitsOf.{bits_of}
use Rattle.binlog_images.specs.Images.{left}
use Rattle.binlog_images.specs.StoredColumns.{column_of, stored_in}
use Rattle.binlog_images.proofs.stored_columns.read_columns.Given as goal

abbrev pub invariant-loop-column : goal.invariant-loop-column
invariant-loop-column l = record {
  can : goal.iterator-loop-column.can_next l.column-iterator;
  finite : goal.iterator-loop-column.is_finite l.column-iterator;
  same : left None (columns_of l.fn.columns) (bits_of l.start) l.fn.buf ≡ left None (columns_of l.column-iterator) (bits_of l.bits) l.buf;
  stored : map column_of l.stored.items ++ stored_in (columns_of l.column-iterator) (bits_of l.bits) l.buf ≡ stored_in (columns_of l.fn.columns) (bits_of l.start) l.fn.buf;
  in_range : l.bits.index + length (columns_of l.column-iterator) ≤ l.bits.present.len;
  in_place : l.bits.place ≤ l.bits.index;
}
