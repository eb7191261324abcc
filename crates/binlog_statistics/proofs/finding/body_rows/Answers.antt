use Rattle.std.proofs.Common.{◌≡◌, Some, Ok, subst, rules}
use Rattle.binlog_events.specs.EventRefs.{view_of}
use Rattle.binlog_file.specs.LogData.{ReadsLogData}
use Rattle.binlog_file.specs.declared.log_data.LogEventData.{LogEventData}
use Rattle.binlog_file.specs.declared.log_data.LogEventData.TheVariants.{Maria}
use Rattle.binlog_mariadb.specs.declared.event_data.MariaEventData.TheVariants.{RowsCompressedEvent}
use Rattle.binlog_statistics.proofs.finding.body_rows.Goals as goal

pub compressed_rows-requires : goal.compressed_rows-requires
compressed_rows-requires c =
    let is : c.args.body.now ≡ Maria (RowsCompressedEvent c.in-Maria-RowsCompressedEvent.rows) = search rules in
    subst (λ (x : LogEventData). ReadsLogData (view_of c.args.event.now) (Ok (Some x))) is c.requires
