use Rattle.binlog_columns.specs.TableColumns.{columns_of}
use Rattle.binlog_rows.specs.Images.{bitmap_of}
use Rattle.binlog_undo.proofs.FullImages.{Remains}
use Rattle.binlog_undo.proofs.full_image.FullImage.behind_columns.Given as goal

abbrev pub invariant-loop-column : goal.invariant-loop-column
invariant-loop-column l = record {
  can : goal.iterator-loop-column.can_next l.column-iterator;
  finite : goal.iterator-loop-column.is_finite l.column-iterator;
  remains : Remains (columns_of l.self.columns) (bitmap_of l.self.present) (bitmap_of l.fn.nulls) l.bytes (columns_of l.column-iterator) l.word l.rest;
}
