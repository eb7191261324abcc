use Rattle.std.proofs.Common.{arith}
use Rattle.binlog_columns.specs.TableColumns.{columns_of}
use Rattle.binlog_images.proofs.Events.{before_bits, after_bits}
use Rattle.binlog_images.proofs.event_rows.rows_with.Goals as goal

pub new-requires-clause-before : goal.new-requires-clause-before
new-requires-clause-before c = before_bits (columns_of c.args.columns) c.args.event.now c.requires (omega arith)

pub new-requires-clause-after : goal.new-requires-clause-after
new-requires-clause-after c = after_bits (columns_of c.args.columns) c.args.event.now c.requires (omega arith)
