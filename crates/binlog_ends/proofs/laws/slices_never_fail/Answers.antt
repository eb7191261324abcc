use Rattle.binlog_ends.proofs.Rising.{zero_never_rises}
use Rattle.binlog_ends.proofs.laws.slices_never_fail.Goals as goal

pub returns : goal.returns
returns c = λ before after rose. zero_never_rises rose
