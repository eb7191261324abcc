use Rattle.binlog_ends.proofs.Rising.{failure_rises}
use Rattle.binlog_ends.proofs.laws.failures_rise.Goals as goal

pub returns : goal.returns
returns c = λ count. failure_rises count
