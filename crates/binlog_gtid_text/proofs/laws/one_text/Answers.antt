use Rattle.std.proofs.Common.{ap}
use Rattle.binlog_gtid_text.specs.Printing.{set_text}
use Rattle.binlog_gtid_text.proofs.OneSet.{one_set}
use Rattle.binlog_gtid_text.proofs.laws.one_text.Goals as goal

pub returns : goal.returns
returns c = λ a b are are_too is is_too same. ap set_text (one_set a b are are_too is is_too same)
