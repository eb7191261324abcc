use Rattle.binlog_event_commands.proofs.ColumnFiles.{refused}
use Rattle.binlog_event_commands.proofs.columns.tables_of.Goals as goal

pub returns-in-Err-clause-err : goal.returns-in-Err-clause-err
returns-in-Err-clause-err g c = refused c.args.text.now c.in-Err.error c.refuse.result c.refuse.ensures c.in-Err.ensures.err
