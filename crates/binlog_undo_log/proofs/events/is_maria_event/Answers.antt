use Rattle.std.proofs.Common.{IsTrue, take, subst}
use Rattle.std.specs.Prelude.{◌↔◌}
use Rattle.binlog_event_format.specs.declared.format_description.FormatDescriptionEvent.{FormatDescriptionEvent}
use Rattle.binlog_mariadb.specs.Flavour.{IsMariaVersion}
use Rattle.binlog_undo_log.proofs.events.is_maria_event.Goals as goal

pub returns : goal.returns
returns c = subst (λ (d : FormatDescriptionEvent). IsTrue c.is_maria_log.result ↔ IsMariaVersion (take 50 d.server_version)) c.fde.ensures c.is_maria_log.ensures
