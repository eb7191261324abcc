use Rattle.binlog_columns.specs.ColumnLists.{columns, whole_read, read_whole}
use Rattle.binlog_columns.proofs.laws.columns_are_read.Goals as goal

pub returns : goal.returns
returns c = record {
  keeps = λ types. (columns types).keeps;
  whole = λ types m h. whole_read 0 types m h;
  read = λ types m cs h. read_whole 0 types m cs h;
}
