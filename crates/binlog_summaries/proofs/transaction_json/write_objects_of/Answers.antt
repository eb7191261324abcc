use Rattle.std.proofs.Common.{◌<◌, length, arith}
use Rattle.binlog_summaries.specs.TransactionJson.{table_object}
use Rattle.binlog_summaries.proofs.TransactionLines.{table_added}
use Rattle.binlog_summaries.proofs.transaction_json.write_objects_of.Goals as goal

pub tables-preserved : goal.tables-preserved
tables-preserved c =
    let within : c.tables.index < length c.args.tables.now.entries = omega arith in
    table_added table_object c.args.tables.now.entries c.tables.index _ _ _ within c.tables.invariant c.in_ok-write_row.ensures
