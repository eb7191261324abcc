-- Table maps and row events whose fields are in their ranges fit the format in which they are written.
use Rattle.std.proofs.Common.{◌≡◌, ◌^◌, ◌<◌, length, refl, ap, ◌∙◌, arith, ℕ, Bool, true, false, Option, Some, None, sym, subst}
use Rattle.std.specs.Prelude.{IfSome}
use Rattle.binlog_wire.specs.Bits.{bytes_of_bits}
use Rattle.binlog_rows.specs.TableMaps.{table_map}
use Rattle.binlog_rows.specs.declared.table_map_event.TableMapEvent.{TableMapEvent}
use Rattle.binlog_rows.specs.Writable.{TableMapInRange, RowsInRange}
use Rattle.binlog_rows.specs.Columns.{Bitmap, IsBitmap, id_width}
use Rattle.binlog_rows.specs.Rows.{image, IsImage, rows, IsOfForm}
use Rattle.binlog_rows.specs.Forms.{default_length}
use Rattle.binlog_rows.specs.Laws.ReadRows.{id_fits, extra_fits}
use Rattle.binlog_rows.specs.declared.rows_form.RowsForm.{RowsForm}
use Rattle.binlog_rows.specs.declared.rows_event.RowsEvent.{RowsEvent}

-- A table map whose fields are in their ranges fits the format in which it is written.
pub table_map_fits : (event : TableMapEvent) → TableMapInRange event → (table_map 8).Fits event
table_map_fits event range =
    let id : event.table.id < 256 ^ 6 = omega (arith, range.id) in
    let flags : event.table.flags < 256 ^ 2 = omega (arith, range.flags) in
    let types : length event.columns.types < 256 ^ 8 = omega (arith, range.columns.1) in
    let metadata : length event.columns.metadata < 256 ^ 8 = omega (arith, range.columns.1) in
    let bits : length event.columns.null_bits.1 ≡ bytes_of_bits (length event.columns.types) = range.null_bits ∙ ap bytes_of_bits range.columns.0 in
    ((id, (flags, (tt, tt))), (types, (refl, ((metadata, refl), (bits, tt)))))

image_fits : (has_image : Bool) (count : ℕ) (o : Option Bitmap) → IsImage has_image count o → IfSome o IsBitmap → (image has_image count).Fits o
image_fits true count (Some columns) is bits = bits ∙ ap bytes_of_bits is.1
image_fits true count None is bits = absurd cc
image_fits false count o is bits = tt

-- A row event that has the parts of a form, and whose fields are in their ranges, fits the format in which it is
-- written.
pub rows_fit : (form : RowsForm) (event : RowsEvent) → RowsInRange event → IsOfForm form event → (rows form (default_length form)).Fits event
unfolding rows
rows_fit form event range has =
    let id : event.head.table_id < 256 ^ id_width (default_length form) = id_fits form.has_extra event.head.table_id (omega (arith, range.table_id)) in
    let flags : event.head.flags < 256 ^ 2 = omega (arith, range.flags) in
    let count : event.columns.count < 256 ^ 8 = omega (arith, range.count) in
    let before = image_fits form.has_before event.columns.count event.columns.before has.before range.before in
    let after = image_fits form.has_after event.columns.count event.columns.after has.after range.after in
    ((id, (flags, extra_fits form.has_extra event.head.extra)), ((count, (before, after)), tt))

-- The same for a post-header of that length.
pub rows_fit_under : (form : RowsForm) (k : ℕ) → k ≡ default_length form → (event : RowsEvent) → RowsInRange event → IsOfForm form event → (rows form k).Fits event
rows_fit_under form k same event range has = subst (λ (n : ℕ). (rows form n).Fits event) (sym same) (rows_fit form event range has)
