use Rattle.binlog_rows.specs.Laws.Writable.{rows_fit_under}
use Rattle.binlog_rows.proofs.laws.writable_row_events_fit.Goals as goal

pub returns : goal.returns
returns g c = λ version event range has. rows_fit_under g.K.RowsKind.FORM _ (g.K.RowsKind.by_default version) event range has
