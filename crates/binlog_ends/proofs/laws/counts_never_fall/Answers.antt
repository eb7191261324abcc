use Rattle.binlog_ends.proofs.Rising.{never_falls}
use Rattle.binlog_ends.proofs.laws.counts_never_fall.Goals as goal

pub returns : goal.returns
returns c = λ count. never_falls count
