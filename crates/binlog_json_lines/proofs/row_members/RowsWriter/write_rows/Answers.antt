use Rattle.std.proofs.Common.{List, sym, subst, ◌∙◌}
use Rattle.binlog_json_bodies.specs.Shown.{ShowsBy}
use Rattle.binlog_json_lines.specs.RowMembers.{AreRowsMembers, rows_error}
use Rattle.binlog_json_lines.proofs.KeptTables.{no_files}
use Rattle.column_files.specs.declared.tables.DeclaredTables.{DeclaredTables}
use Rattle.binlog_json_lines.proofs.row_members.RowsWriter.write_rows.Goals as goal

pub returns-then-is_empty : goal.returns-then-is_empty
returns-then-is_empty c =
    let map = c.args.table_map.now in
    subst
    (λ (files : List DeclaredTables). ShowsBy c.write_stated_rows.result c.args.line.now c.write_stated_rows.new.line (AreRowsMembers files c.args.is_maria_log c.args.body.now map (rows_error map c.args.body.now)))
    (no_files c.args.files.now (sym c.is_empty.ensures ∙ c.if-is_empty.true))
    c.write_stated_rows.ensures
