use Rattle.std.proofs.Common.{◌≡◌, List, [], Ok, Err, Option, map, sym, subst, ◌∙◌}
use Rattle.std.specs.Prelude.{is_some}
use Rattle.binlog_columns.specs.Columns.{typed_of}
use Rattle.binlog_columns.specs.Metadata.{Typed}
use Rattle.binlog_columns.specs.TableColumns.{columns_of}
use Rattle.binlog_wire.specs.Fields.{IsBytes}
use Rattle.binlog_rows.specs.Images.{bitmap_of}
use Rattle.binlog_rows.specs.RowsData.{event_in}
use Rattle.binlog_images.proofs.Events.{of_map}
use Rattle.binlog_images.specs.Events.{mapped_columns}
use Rattle.binlog_images.specs.EventRows.{is_partial, GivesRowsOf}
use Rattle.binlog_images.specs.declared.rows_error.RowsEventError.{RowsEventError}
use Rattle.binlog_json_lines.specs.RowMembers.{AreRowsMembers}
use Rattle.binlog_json_bodies.specs.Shown.{ShowsBy}
use Rattle.binlog_json_lines.proofs.Images.{has_images, some_bits}
use Rattle.binlog_json_lines.proofs.KeptTables.{whole_map, columns_of_map, stated_by_kept}
use Rattle.binlog_json_lines.proofs.Rows.{rows_value, refused_members}
use Rattle.binlog_json_lines.proofs.row_members.RowsWriter.write_kept_table.Goals as goal

pub write_kept_rows-requires : goal.write_kept_rows-requires
write_kept_rows-requires c =
    let event = event_in c.args.body.now in
    let answer = rw c.in-Ok.is at c.rows_of_table.ensures in
    has_images (is_partial c.args.body.now) (columns_of c.known.result) event c.in-Ok.rows _ _ answer.1
    (c.is_some.ensures ∙ some_bits bitmap_of c.columns_before_image.result event.columns.before c.columns_before_image.ensures.image)
    (c.is_some-2.ensures ∙ some_bits bitmap_of c.columns_after_image.result event.columns.after c.columns_after_image.ensures.image)

pub returns-in-Ok : goal.returns-in-Ok
returns-in-Ok c = λ is_maria_log of is id.
    let table = c.args.table.now in
    let event = event_in c.args.body.now in
    let known : columns_of c.known.result ≡ map typed_of table.columns.items = rw c.deref.ensures.value at c.known.ensures in
    let columns : columns_of c.known.result ≡ mapped_columns of = known ∙ table.typed ∙ columns_of_map table is_maria_log of is in
    let answer = rw c.in-Ok.is at c.rows_of_table.ensures in
    let given = of_map (is_partial c.args.body.now) of event (Ok c.in-Ok.rows) id (whole_map table is_maria_log of is)
    (subst (λ (l : List Typed). GivesRowsOf (is_partial c.args.body.now) l event (Ok c.in-Ok.rows)) columns answer) in
    let bytes : IsBytes c.in-Ok.rows.rest.now = subst IsBytes (c.rows_data.ensures ∙ sym given.1.bytes) c.are_bytes.ensures in
    let optional : IsBytes table.optional_metadata.items = subst IsBytes c.optional_metadata_raw.ensures c.are_bytes-2.ensures in
    subst
    (λ (e : Option RowsEventError). ShowsBy c.write_kept_rows.result c.args.line.now c.write_kept_rows.new.line (AreRowsMembers [] is_maria_log c.args.body.now of e))
    (sym given.0)
    (rows_value c.write_kept_rows.result [] is_maria_log (is_partial c.args.body.now) of event c.in-Ok.rows c.args.line.now c.write_kept_rows.new.line given.1
    (stated_by_kept c.write_kept_rows.result table is_maria_log of c.in-Ok.rows c.args.line.now c.write_kept_rows.new.line is optional (c.write_kept_rows.ensures bytes)))

pub returns-in-Err : goal.returns-in-Err
returns-in-Err c = λ is_maria_log of is id.
    let table = c.args.table.now in
    let event = event_in c.args.body.now in
    let known : columns_of c.known.result ≡ map typed_of table.columns.items = rw c.deref.ensures.value at c.known.ensures in
    let columns : columns_of c.known.result ≡ mapped_columns of = known ∙ table.typed ∙ columns_of_map table is_maria_log of is in
    let answer = rw c.in-Err.is at c.rows_of_table.ensures in
    let given = of_map (is_partial c.args.body.now) of event (Err c.in-Err.error) id (whole_map table is_maria_log of is)
    (subst (λ (l : List Typed). GivesRowsOf (is_partial c.args.body.now) l event (Err c.in-Err.error)) columns answer) in
    refused_members c.write_refused.result [] is_maria_log c.args.body.now of c.in-Err.error _ c.args.line.now c.write_refused.new.line given c.write_refused.ensures
