use Rattle.binlog_rows.specs.Laws.ReadTableMaps.{read_map_fits}
use Rattle.binlog_rows.proofs.laws.read_table_maps_fit.Goals as goal

pub returns : goal.returns
returns c = read_map_fits
