use Rattle.binlog_rows.specs.Laws.Writable.{table_map_fits}
use Rattle.binlog_rows.proofs.laws.writable_table_maps_fit.Goals as goal

pub returns : goal.returns
returns c = λ version event range. table_map_fits event range
