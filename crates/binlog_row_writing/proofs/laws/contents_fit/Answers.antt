use Rattle.binlog_row_writing.specs.FitLaws.{content_fits}
use Rattle.binlog_row_writing.proofs.laws.contents_fit.Goals as goal

pub returns : goal.returns
returns c = λ column value content h. content_fits column value content h
