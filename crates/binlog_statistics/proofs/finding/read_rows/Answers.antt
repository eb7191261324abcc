use Rattle.std.proofs.Common.{◌≡◌, Option, Some, Result, Ok, subst, rules}
use Rattle.binlog_wire.specs.declared.error.Error.{Error}
use Rattle.binlog_events.specs.EventRefs.{view_of}
use Rattle.binlog_file.specs.LogData.{ReadsLogData}
use Rattle.binlog_file.specs.declared.log_data.LogEventData.{LogEventData}
use Rattle.binlog_statistics.proofs.finding.read_rows.Goals as goal

pub body_rows-requires : goal.body_rows-requires
body_rows-requires c =
    let is : c.args.read.now ≡ Ok (Some c.in-Ok-Some.body) = search rules in
    subst (λ (x : Result (Option LogEventData) Error). ReadsLogData (view_of c.args.event.now) x) is c.requires
