use Rattle.binlog_payload_visits.proofs.Counted.{one_first_error}
use Rattle.binlog_payload_visits.proofs.laws.first_errors_are_one.Goals as goal

pub returns : goal.returns
returns c = one_first_error
