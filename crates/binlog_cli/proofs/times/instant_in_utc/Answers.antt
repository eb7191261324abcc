use Rattle.std.proofs.Common.{sym}
use Rattle.binlog_cli.proofs.CivilInstants.{civil_instant}
use Rattle.binlog_cli.proofs.times.instant_in_utc.Goals as goal

pub returns-in-Ok : goal.returns-in-Ok
returns-in-Ok c = civil_instant c.args.text.now c.in-Ok.time c.civil_instant.result (sym c.in-Ok.ensures.value) c.civil_instant.ensures
