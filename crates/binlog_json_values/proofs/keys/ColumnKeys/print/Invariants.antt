use Rattle.std.proofs.Common.{◌≤◌, length}
use Rattle.binlog_json_values.specs.Keys.{ArePrintedBefore}
use Rattle.binlog_json_values.proofs.keys.ColumnKeys.print.Given as goal

abbrev pub invariant-columns : goal.invariant-columns
invariant-columns l = (l.index ≤ length l.self.lines.items) × ArePrintedBefore l.index l.columns l.self.lines.items
