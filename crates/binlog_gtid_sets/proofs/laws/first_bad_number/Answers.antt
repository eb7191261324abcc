use Rattle.binlog_gtid_sets.proofs.FirstBadGnos.{first_bad_listed}
use Rattle.binlog_gtid_sets.proofs.laws.first_bad_number.Goals as goal

pub returns : goal.returns
returns c = first_bad_listed
