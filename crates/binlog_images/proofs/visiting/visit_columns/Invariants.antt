use Rattle.std.proofs.Common.{◌≡◌, ◌+◌, ◌≤◌, length}
use Rattle.binlog_columns.specs.TableColumns.{columns_of}
use Rattle.binlog_images.specs.BitsOf.{bits_of}
use Rattle.binlog_images.specs.DiffsOf.{diffs_of}
use Rattle.binlog_images.specs.Images.{left, cells_in}
use Rattle.binlog_images.proofs.Visited.{Remains}
use Rattle.binlog_images.proofs.visiting.visit_columns.Given as goal

abbrev pub invariant-loop-column : goal.invariant-loop-column
invariant-loop-column g l = record {
  can : (goal.iterator-loop-column g).can_next l.column-iterator;
  finite : (goal.iterator-loop-column g).is_finite l.column-iterator;
  same : left (diffs_of l.start_diffs) (columns_of l.fn.columns) (bits_of l.start) l.fn.buf ≡ left (diffs_of l.diffs) (columns_of l.column-iterator) (bits_of l.bits) l.buf;
  visits : Remains g.T.ColumnVisitor.visits l.kind l.start.index (cells_in (diffs_of l.start_diffs) (columns_of l.fn.columns) (bits_of l.start) l.fn.buf) l.fn.visitor
      l.bits.index (cells_in (diffs_of l.diffs) (columns_of l.column-iterator) (bits_of l.bits) l.buf) l.visitor;
  in_range : l.bits.index + length (columns_of l.column-iterator) ≤ l.bits.present.len;
  in_place : l.bits.place ≤ l.bits.index;
}
