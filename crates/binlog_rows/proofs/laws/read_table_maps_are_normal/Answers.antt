use Rattle.binlog_rows.specs.Laws.ReadNormal.{map_normal}
use Rattle.binlog_rows.proofs.laws.read_table_maps_are_normal.Goals as goal

pub returns : goal.returns
returns c = map_normal
