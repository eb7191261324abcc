use Rattle.binlog_mariadb.specs.GtidLengths.{gtid_long}
use Rattle.binlog_mariadb.proofs.laws.short_gtids.Goals as goal

pub returns : goal.returns
returns c = gtid_long
