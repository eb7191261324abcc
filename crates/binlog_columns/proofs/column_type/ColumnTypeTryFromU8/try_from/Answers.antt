use Rattle.std.proofs.Common.{sym, arith}
use Rattle.binlog_columns.specs.ColumnTypeLaws.{unknown_low, unknown_high}
use Rattle.binlog_columns.proofs.column_type.ColumnTypeTryFromU8.try_from.Goals as goal

pub returns-in-20-to-139 : goal.returns-in-20-to-139
returns-in-20-to-139 c = sym (unknown_low c.args.number (omega arith) (omega arith))

pub returns-in-142-to-241 : goal.returns-in-142-to-241
returns-in-142-to-241 c = sym (unknown_high c.args.number (omega arith) (omega arith))
