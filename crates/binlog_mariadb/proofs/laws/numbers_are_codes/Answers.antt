use Rattle.binlog_mariadb.specs.EventTypes.{maria_event_type_is_code}
use Rattle.binlog_mariadb.proofs.laws.numbers_are_codes.Goals as goal

pub returns : goal.returns
returns c = maria_event_type_is_code
