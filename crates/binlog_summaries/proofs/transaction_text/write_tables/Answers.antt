use Rattle.std.proofs.Common.{◌<◌, length, arith}
use Rattle.binlog_summaries.specs.TransactionText.{table_line}
use Rattle.change_statistics.proofs.WrittenLists.{row_written}
use Rattle.binlog_summaries.proofs.transaction_text.write_tables.Goals as goal

pub tables-preserved : goal.tables-preserved
tables-preserved g c =
    let within : c.tables.index < length c.args.tables.now.entries = omega arith in
    row_written table_line c.args.tables.now.entries c.tables.index _ _ _ within c.tables.invariant c.in_ok-write_row.ensures
