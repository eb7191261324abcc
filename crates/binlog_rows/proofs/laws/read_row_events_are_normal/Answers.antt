use Rattle.binlog_rows.specs.Laws.ReadNormal.{rows_normal}
use Rattle.binlog_rows.proofs.laws.read_row_events_are_normal.Goals as goal

pub returns : goal.returns
returns c = rows_normal
