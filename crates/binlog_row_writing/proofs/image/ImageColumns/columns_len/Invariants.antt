use Rattle.std.proofs.Common.{◌≡◌, ◌+◌, ◌-◌, ◌^◌, ◌≤◌, length, min}
use Rattle.binlog_columns.specs.TableColumns.{columns_of}
use Rattle.binlog_rows.specs.Images.{bitmap_of}
use Rattle.binlog_row_writing.specs.Walks.{first_walk}
use Rattle.binlog_row_writing.specs.WalkViews.{walk_of}
use Rattle.binlog_row_writing.specs.NewImages.{columns_bytes}
use Rattle.binlog_row_writing.proofs.image.ImageColumns.columns_len.Given as goal

abbrev pub invariant-loop-column : goal.invariant-loop-column
invariant-loop-column l = record {
  can : goal.iterator-loop-column.can_next l.column-iterator;
  finite : goal.iterator-loop-column.is_finite l.column-iterator;
  same : min (l.len + length (columns_bytes (columns_of l.column-iterator) (walk_of l.walk) l.values)) (2 ^ 64 - 1) ≡ min (length (columns_bytes (columns_of l.self.columns) (first_walk (bitmap_of l.self.present)) l.values)) (2 ^ 64 - 1);
  small : l.len ≤ 2 ^ 64 - 1;
  in_range : l.walk.index + length (columns_of l.column-iterator) ≤ l.walk.present.len;
  in_place : l.walk.place ≤ l.walk.index;
}
