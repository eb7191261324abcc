use Rattle.binlog_maria_gtids.proofs.LastEntries.{entries_one}
use Rattle.binlog_maria_gtids.proofs.laws.entries_are_one.Goals as goal

pub returns : goal.returns
returns c = entries_one
