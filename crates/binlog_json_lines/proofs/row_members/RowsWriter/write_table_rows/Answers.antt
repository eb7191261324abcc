use Rattle.std.proofs.Common.{◌≡◌, List, Ok, Err, Option, sym, subst, ◌∙◌}
use Rattle.binlog_columns.specs.Metadata.{Typed}
use Rattle.binlog_columns.specs.TableColumns.{columns_of}
use Rattle.binlog_wire.specs.Fields.{IsBytes}
use Rattle.binlog_rows.specs.RowsData.{event_in}
use Rattle.binlog_images.proofs.Events.{of_map}
use Rattle.binlog_images.specs.Events.{mapped_columns}
use Rattle.binlog_images.specs.EventRows.{is_partial, GivesRowsOf}
use Rattle.binlog_images.specs.declared.rows_error.RowsEventError.{RowsEventError}
use Rattle.binlog_json_lines.specs.RowMembers.{AreRowsMembers}
use Rattle.binlog_json_bodies.specs.Shown.{ShowsBy}
use Rattle.binlog_json_lines.proofs.Rows.{rows_value, refused_members}
use Rattle.binlog_json_lines.proofs.row_members.RowsWriter.write_table_rows.Goals as goal

pub returns-in-Ok : goal.returns-in-Ok
returns-in-Ok c =
    let map = c.args.table_map.now in
    let event = event_in c.args.body.now in
    let columns : columns_of c.known.result ≡ mapped_columns map = c.known.ensures ∙ c.requires.columns in
    let answer = rw c.in-Ok.is at c.rows_of_table.ensures in
    let given = of_map (is_partial c.args.body.now) map event (Ok c.in-Ok.rows) c.requires.id c.requires.whole
    (subst (λ (l : List Typed). GivesRowsOf (is_partial c.args.body.now) l event (Ok c.in-Ok.rows)) columns answer) in
    let bytes : IsBytes c.in-Ok.rows.rest.now = subst IsBytes (c.rows_data.ensures ∙ sym given.1.bytes) c.are_bytes.ensures in
    subst
    (λ (e : Option RowsEventError). ShowsBy c.write_split_rows.result c.args.line.now c.write_split_rows.new.line (AreRowsMembers c.args.files.now c.args.is_maria_log c.args.body.now map e))
    (sym given.0)
    (rows_value c.write_split_rows.result c.args.files.now c.args.is_maria_log (is_partial c.args.body.now) map event c.in-Ok.rows c.args.line.now c.write_split_rows.new.line given.1 (c.write_split_rows.ensures bytes))

pub returns-in-Err : goal.returns-in-Err
returns-in-Err c =
    let map = c.args.table_map.now in
    let event = event_in c.args.body.now in
    let columns : columns_of c.known.result ≡ mapped_columns map = c.known.ensures ∙ c.requires.columns in
    let answer = rw c.in-Err.is at c.rows_of_table.ensures in
    let given = of_map (is_partial c.args.body.now) map event (Err c.in-Err.error) c.requires.id c.requires.whole
    (subst (λ (l : List Typed). GivesRowsOf (is_partial c.args.body.now) l event (Err c.in-Err.error)) columns answer) in
    refused_members c.write_refused.result c.args.files.now c.args.is_maria_log c.args.body.now map c.in-Err.error _ c.args.line.now c.write_refused.new.line given c.write_refused.ensures
