use Rattle.binlog_row_writing.specs.RowLaws.{rows_back}
use Rattle.binlog_row_writing.proofs.laws.written_rows_read_back.Goals as goal

pub returns : goal.returns
returns c = λ shape rows index all. rows_back shape rows index all
