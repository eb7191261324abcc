use Rattle.binlog_values.specs.Contents.{content_in}
use Rattle.binlog_values.specs.ContentLaws.{read_back}
use Rattle.binlog_values.proofs.laws.contents_are_read.Goals as goal

pub returns : goal.returns
returns c = record {
  keeps = λ layout. (content_in layout).keeps;
  back = λ layout content r fits. read_back layout content r fits;
}
