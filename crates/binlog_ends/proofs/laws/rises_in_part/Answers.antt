use Rattle.binlog_ends.proofs.Rising.{rises_in_part}
use Rattle.binlog_ends.proofs.laws.rises_in_part.Goals as goal

pub returns : goal.returns
returns c = λ first second third here there rose. rises_in_part first second third here there rose
