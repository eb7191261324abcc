use Rattle.std.proofs.Common.{◌≡◌, ◌+◌, ◌≤◌, length}
use Rattle.binlog_columns.specs.TableColumns.{columns_of}
use Rattle.binlog_images.specs.Diffs.{json_count}
use Rattle.binlog_images.proofs.image_columns.ImageColumns.json_count.Given as goal

abbrev pub invariant-loop-column : goal.invariant-loop-column
invariant-loop-column l = record {
  can : goal.iterator-loop-column.can_next l.column-iterator;
  finite : goal.iterator-loop-column.is_finite l.column-iterator;
  counted : l.count + json_count (columns_of l.column-iterator) ≡ json_count (columns_of l.self.columns);
  most : l.count + length (columns_of l.column-iterator) ≤ l.self.present.len;
}
