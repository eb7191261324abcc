use Rattle.std.proofs.Common.{◌≡◌, ◌+◌, ◌≤◌, length}
use Rattle.binlog_columns.specs.TableColumns.{columns_of}
use Rattle.binlog_rows.specs.Images.{bitmap_of}
use Rattle.binlog_row_writing.specs.Walks.{first_walk}
use Rattle.binlog_row_writing.specs.WalkViews.{walk_of}
use Rattle.binlog_row_writing.specs.NewImages.{columns_refusal}
use Rattle.binlog_row_writing.proofs.image.ImageColumns.columns_refusal.Given as goal

abbrev pub invariant-loop-column : goal.invariant-loop-column
invariant-loop-column l = record {
  can : goal.iterator-loop-column.can_next l.column-iterator;
  finite : goal.iterator-loop-column.is_finite l.column-iterator;
  same : columns_refusal (columns_of l.self.columns) (first_walk (bitmap_of l.self.present)) l.values ≡ columns_refusal (columns_of l.column-iterator) (walk_of l.walk) l.values;
  in_range : l.walk.index + length (columns_of l.column-iterator) ≤ l.walk.present.len;
  in_place : l.walk.place ≤ l.walk.index;
}
