use Rattle.binlog_mariadb.specs.Ranges.{gtid_fits, list_fits}
use Rattle.binlog_mariadb.proofs.laws.events_fit.Goals as goal

pub returns-clause-gtid : goal.returns-clause-gtid
returns-clause-gtid c = λ version event range. gtid_fits event range

pub returns-clause-gtid_list : goal.returns-clause-gtid_list
returns-clause-gtid_list c = list_fits
