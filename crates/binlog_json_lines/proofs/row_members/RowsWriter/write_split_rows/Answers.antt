use Rattle.binlog_json_lines.proofs.Rows.{stated_rows}
use Rattle.binlog_json_lines.proofs.row_members.RowsWriter.write_split_rows.Goals as goal

pub returns : goal.returns
returns c = λ bytes.
    let read = rw c.unwrap.ensures at c.table_columns.ensures in
    let stated = rw (read.1, c.optional_metadata_raw.ensures, c.database_name_raw.ensures, c.table_name_raw.ensures) at c.in_ok-facts.ensures in
    let written = rw c.deref.ensures.value at (c.in_ok-all_read.ensures bytes) in
    stated_rows c.args.files.now c.args.is_maria_log c.args.table_map.now c.in_ok-facts.facts.columns.items c.in_ok-facts.facts.refusal c.args.rows _ c.args.line.now c.write_metadata.new.line
    c.key.new.self c.write_rows.new.line stated c.in_ok-write_metadata.ensures c.in_ok-key.ensures.added written
