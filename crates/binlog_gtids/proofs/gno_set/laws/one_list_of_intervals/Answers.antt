use Rattle.binlog_gtids.proofs.GnoSets.{one_list}
use Rattle.binlog_gtids.proofs.gno_set.laws.one_list_of_intervals.Goals as goal

pub returns : goal.returns
returns c = λ is others a b same. one_list is others 0 0 a b same
