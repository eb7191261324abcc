use Rattle.std.proofs.Common.{length}
use Rattle.binlog_wire.specs.Fields.{IsBytes}
use Rattle.binlog_json_values.specs.RowWriting.{Keeps}
use Rattle.binlog_json_values.specs.Written.{HasImages}
use Rattle.binlog_json_values.proofs.RowLists.{SoFar}
use Rattle.binlog_json_values.proofs.row_writer.RowWriter.write_rest.Given as goal

-- The rows so far are written, and with those that are left they are all.
abbrev pub invariant-rows : goal.invariant-rows
invariant-rows l =
    Keeps l.fn.self l.self × HasImages l.self.has_before l.self.has_after l.rest
    × (IsBytes l.fn.rows.rest.now → SoFar l.fn.self.columns.now l.fn.rows l.rest l.fn.self.line l.self.line)

abbrev pub decreases-rows : goal.decreases-rows
decreases-rows l = length l.rest.rest.now
