use Rattle.binlog_payloads.proofs.InnerItems.{all_items_given, one_list}
use Rattle.binlog_payloads.proofs.laws.all_events_are_given.Goals as goal

pub returns-clause-all : goal.returns-clause-all
returns-clause-all c reader end items goes given = all_items_given reader end items goes given

pub returns-clause-one : goal.returns-clause-one
returns-clause-one c fde content items others a b = one_list fde content items others a b
