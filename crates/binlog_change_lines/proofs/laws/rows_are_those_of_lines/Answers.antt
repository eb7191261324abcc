use Rattle.binlog_change_lines.proofs.SameRows.{all_rows}
use Rattle.binlog_change_lines.proofs.WholeLines as whole
use Rattle.binlog_change_lines.proofs.laws.rows_are_those_of_lines.Goals as goal

pub returns : goal.returns
returns c = record {
  outside = λ options place map index event contradiction found line text rows full at. whole.outside options place map index event contradiction found line text rows full at;
  inside = λ options place map index number event contradiction found line text rows full at. whole.inside options place map index number event contradiction found line text rows full at;
  all = λ files is_maria_log body map all_read found tokens fits full all. all_rows files is_maria_log body map all_read found tokens fits full all;
}
