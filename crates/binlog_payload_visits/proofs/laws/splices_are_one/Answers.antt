use Rattle.binlog_payload_visits.proofs.PartLists.{one_list, some_list}
use Rattle.binlog_payload_visits.proofs.Splicing.{one_splice}
use Rattle.binlog_payload_visits.proofs.laws.splices_are_one.Goals as goal

pub returns-clause-some : goal.returns-clause-some
returns-clause-some c = some_list

pub returns-clause-parts : goal.returns-clause-parts
returns-clause-parts c = one_list

pub returns-clause-all : goal.returns-clause-all
returns-clause-all c = one_splice
