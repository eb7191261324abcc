use Rattle.binlog_columns.specs.LayoutLaws.{sound_layout}
use Rattle.binlog_columns.proofs.laws.layouts_are_in_range.Goals as goal

pub returns : goal.returns
returns c = λ t m less h. sound_layout t m less h
