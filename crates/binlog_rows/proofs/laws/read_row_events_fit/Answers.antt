use Rattle.binlog_rows.specs.Laws.ReadRows.{read_rows_fit}
use Rattle.binlog_rows.proofs.laws.read_row_events_fit.Goals as goal

pub returns : goal.returns
returns c = read_rows_fit
