use Rattle.std.proofs.Common.{◌≡◌, length}
use Rattle.binlog_images.specs.RowsLeft.{row_shape}
use Rattle.binlog_wire.specs.Fields.{IsBytes}
use Rattle.binlog_undo.specs.Outcomes.{undone_by}
use Rattle.binlog_undo.proofs.SoFar.{SoFar}
use Rattle.binlog_undo.proofs.undoing.Undoing.undo.Given as goal

abbrev pub invariant-rows : goal.invariant-rows
invariant-rows l = record {
  shape : row_shape l.left ≡ row_shape l.fn.rows;
  so_far : IsBytes l.fn.rows.rest.now → SoFar (undone_by l.self) (row_shape l.fn.rows).images l.fn.rows.row l.fn.rows.rest.now l.left.row l.left.rest.now l.bytes.made;
}

abbrev pub decreases-rows : goal.decreases-rows
decreases-rows l = length l.left.rest.now
