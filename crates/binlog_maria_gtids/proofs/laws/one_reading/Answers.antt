use Rattle.binlog_maria_gtids.proofs.GtidGrammar.{some_reading, one_list, no_fault}
use Rattle.binlog_maria_gtids.proofs.laws.one_reading.Goals as goal

pub returns-clause-some : goal.returns-clause-some
returns-clause-some c = some_reading

pub returns-clause-same : goal.returns-clause-same
returns-clause-same c = one_list

pub returns-clause-valid : goal.returns-clause-valid
returns-clause-valid c = no_fault
