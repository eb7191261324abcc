use Rattle.binlog_later_changes.proofs.Apart.{rows_kept_apart}
use Rattle.binlog_later_changes.proofs.laws.rows_are_kept_apart.Goals as goal

pub returns : goal.returns
returns c = λ rows old new apart. rows_kept_apart rows old new apart
