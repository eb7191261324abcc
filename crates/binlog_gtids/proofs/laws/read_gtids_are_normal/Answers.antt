use Rattle.binlog_gtids.specs.Laws.ReadGtids.{gtid_normal, anonymous_normal}
use Rattle.binlog_gtids.proofs.laws.read_gtids_are_normal.Goals as goal

pub returns-clause-gtid : goal.returns-clause-gtid
returns-clause-gtid c = gtid_normal

pub returns-clause-anonymous : goal.returns-clause-anonymous
returns-clause-anonymous c = anonymous_normal
