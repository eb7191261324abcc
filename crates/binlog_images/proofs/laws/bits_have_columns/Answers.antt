use Rattle.binlog_images.proofs.Placing.{cells_are_placed}
use Rattle.binlog_images.proofs.laws.bits_have_columns.Goals as goal

pub returns : goal.returns
returns c = λ diffs columns present nulls s r cells has h. cells_are_placed diffs columns present nulls s r cells has h
