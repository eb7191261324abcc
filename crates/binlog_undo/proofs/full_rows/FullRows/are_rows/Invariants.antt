use Rattle.std.proofs.Common.{length}
use Rattle.binlog_wire.specs.Fields.{IsBytes}
use Rattle.binlog_undo.specs.FullImages.{rows_shape}
use Rattle.binlog_undo.proofs.FullRows.{CheckedSoFar}
use Rattle.binlog_undo.proofs.full_rows.FullRows.are_rows.Given as goal

abbrev pub invariant-rows : goal.invariant-rows
invariant-rows l = IsBytes l.rows → CheckedSoFar (rows_shape l.self) l.rows l.rest

abbrev pub decreases-rows : goal.decreases-rows
decreases-rows l = length l.rest
