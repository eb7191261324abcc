use Rattle.std.proofs.Common.{refl}
use Rattle.binlog_json_values.specs.KeptColumns.{kept_facts}
use Rattle.binlog_json_lines.proofs.KeptTables.{kept_rows}
use Rattle.binlog_json_lines.proofs.row_members.RowsWriter.write_kept_rows.Goals as goal

pub returns : goal.returns
returns c = λ bytes.
    let table = c.args.table.now in (
      refl,
      kept_rows (kept_facts table.known) table.refused c.args.rows c.in_ok-all_read.all_read c.args.line.now c.write_metadata.new.line c.key.new.self c.write_kept_rows.new.line
          c.in_ok-write_metadata.ensures c.in_ok-key.ensures.added (c.in_ok-all_read.ensures.by_facts bytes),
    )
