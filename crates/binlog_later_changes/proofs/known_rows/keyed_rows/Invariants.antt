use Rattle.std.proofs.Common.{◌≡◌, length, map}
use Rattle.binlog_columns.specs.TableColumns.{columns_of}
use Rattle.binlog_images.specs.Cells.{whole}
use Rattle.binlog_images.specs.RowsLeft.{row_shape}
use Rattle.binlog_wire.specs.Fields.{IsBytes}
use Rattle.change_statistics.specs.Names.{name_of}
use Rattle.binlog_later_changes.specs.KeyedRows.{keys_in, shape_if}
use Rattle.binlog_later_changes.proofs.KnownRows.{ReadSoFar}
use Rattle.binlog_later_changes.proofs.known_rows.keyed_rows.Given as goal

abbrev pub invariant-rows : goal.invariant-rows
invariant-rows l = record {
  shape : row_shape l.left ≡ whole (shape_if (columns_of l.columns) l.before, shape_if (columns_of l.columns) l.after);
  so_far : IsBytes l.fn.rows.rest.now
      → ReadSoFar (name_of l.name) (shape_if (columns_of l.columns) l.before, shape_if (columns_of l.columns) l.after) l.fn.rows.row l.fn.rows.rest.now l.left.row l.left.rest.now (map keys_in l.keyed.items);
}

abbrev pub decreases-rows : goal.decreases-rows
decreases-rows l = length l.left.rest.now
