use Rattle.binlog_maria_gtids.proofs.LastEntries.{last_is}
use Rattle.binlog_maria_gtids.proofs.laws.last_is_last.Goals as goal

pub returns : goal.returns
returns c = last_is
