use Rattle.std.proofs.Common.{[]}
use Rattle.binlog_rows.specs.RowsData.{event_in}
use Rattle.binlog_json_lines.proofs.KeptTables.{columns_refused}
use Rattle.binlog_json_lines.proofs.Rows.{refused_members}
use Rattle.binlog_json_lines.proofs.row_members.RowsWriter.write_repeated_rows.Goals as goal

pub returns-in_ok-put-in-Ok : goal.returns-in_ok-put-in-Ok
returns-in_ok-put-in-Ok c =
    let of = rw c.in-Ok.is at c.in_ok-table.ensures in
    c.in_ok-written-in-Ok.ensures c.args.is_maria_log c.args.table_map.now of c.requires

pub returns-in-Err : goal.returns-in-Err
returns-in-Err c =
    let refused = rw c.in-Err.is at c.in_ok-table.ensures in
    refused_members c.write_refused.result [] c.args.is_maria_log c.args.body.now c.args.table_map.now _ _ c.args.line.now c.write_refused.new.line
    (columns_refused c.args.table_map.now (event_in c.args.body.now) c.in-Err.error c.requires refused) c.write_refused.ensures
