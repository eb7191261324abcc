use Rattle.binlog_event_types.specs.TypeNames.{AreNamed}
use Rattle.binlog_cli.proofs.type_names.types_with_names.Goals as goal

pub returns-in-Ok-clause-ok : goal.returns-in-Ok-clause-ok
returns-in-Ok-clause-ok g c = record { exactly = c.in-Ok.ensures; each = c.in_ok-check_names.ensures.ok }
