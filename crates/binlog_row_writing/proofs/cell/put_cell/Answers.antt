use Rattle.std.proofs.Common.{sym}
use Rattle.binlog_columns.specs.Columns.{typed_of}
use Rattle.binlog_row_writing.specs.Stored.{stored_content}
use Rattle.binlog_row_writing.specs.FitLaws.{content_fits}
use Rattle.binlog_row_writing.proofs.cell.put_cell.Goals as goal

pub put-requires-clause-fits : goal.put-requires-clause-fits
put-requires-clause-fits c = rw c.layout.ensures.layout (content_fits (typed_of c.args.column.now) c.in-Some.value (stored_content c.in-Ok.stored) (sym c.in-Ok.ensures))
