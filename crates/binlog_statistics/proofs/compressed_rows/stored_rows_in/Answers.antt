use Rattle.std.proofs.Common.{◌≡◌, rules}
use Rattle.binlog_rows.specs.RowsData.{event_in}
use Rattle.binlog_mariadb.specs.declared.compression_error.CompressionError.TheVariants.{Memory}
use Rattle.binlog_statistics.proofs.UncompressedRows.{stored_counted, none_stored}
use Rattle.binlog_statistics.proofs.compressed_rows.stored_rows_in.Goals as goal

pub returns-in-Ok-clause-count : goal.returns-in-Ok-clause-count
returns-in-Ok-clause-count c =
    stored_counted (event_in c.args.compressed.now.event) c.args.table_map.now c.compressed_data.result.now c.in-Ok.rows.items c.deref.result.now c.uncompressed_rows_in.result c.compressed_data.ensures c.deref.ensures.value
    c.in-Ok.ensures.found c.in-Ok.ensures.only c.in-Ok.ensures.within c.uncompressed_rows_in.ensures.count

pub returns-in-Err : goal.returns-in-Err
returns-in-Err c =
    let other : ¬ (c.in-Err.field-0 ≡ Memory) = search rules in
    record { count = none_stored (event_in c.args.compressed.now.event) c.args.table_map.now c.compressed_data.result.now c.in-Err.field-0 c.compressed_data.ensures c.in-Err.ensures.refused other; memory = tt }
