use Rattle.binlog_event_types.proofs.Versions.{is_maria_from}
use Rattle.binlog_event_types.proofs.flavours.is_of_maria.Goals as goal

pub returns : goal.returns
returns c = is_maria_from _ c.is_maria_log.result c.is_maria_log.ensures
