use Rattle.binlog_json_bodies.proofs.KnownLists.{known_are, known_only}
use Rattle.binlog_json_bodies.proofs.laws.one_list_of_known_variables.Goals as goal

pub returns : goal.returns
returns c = record { some = known_are; one = known_only }
