use Rattle.std.proofs.Common.{length}
use Rattle.binlog_wire.specs.Fields.{IsBytes}
use Rattle.binlog_undo.specs.FullImages.{rows_shape}
use Rattle.binlog_undo.proofs.FullRows.{ExchangedSoFar}
use Rattle.binlog_undo.proofs.full_rows.FullRows.exchanged.Given as goal

abbrev pub invariant-rows : goal.invariant-rows
invariant-rows l = IsBytes l.rows → ExchangedSoFar (rows_shape l.self) l.rows l.rest l.bytes.made

abbrev pub decreases-rows : goal.decreases-rows
decreases-rows l = length l.rest
