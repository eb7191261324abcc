-- Each row has the images of its event.
use Rattle.std.proofs.Common.{◌≡◌, Bool, List, Option, None, Some, refl, sym, ap, ◌∙◌}
use Rattle.std.specs.Prelude.{is_some, option_map}
use Rattle.binlog_columns.specs.Metadata.{Typed}
use Rattle.binlog_rows.specs.Columns.{Bitmap}
use Rattle.binlog_rows.specs.declared.rows_event.RowsEvent.{RowsEvent}
use Rattle.binlog_images.specs.Cells.{ImageShape, RowsShape}
use Rattle.binlog_images.specs.EventRows.{AreAllRows}
use Rattle.binlog_images.specs.RowsLeft.{row_shape}
use Rattle.binlog_images.specs.declared.rows.Rows.{Rows}
use Rattle.binlog_json_values.proofs.Presence.{images_present}
use Rattle.binlog_json_values.specs.Written.{HasImages}

some_shape : (columns : List Typed) (bits : Option Bitmap) → is_some {T = ImageShape} (option_map (λ (b : Bitmap). (columns, b)) bits) ≡ is_some bits
some_shape columns None = refl
some_shape columns (Some bits) = refl

-- The images of the rows of an event are those that it states.
pub has_images : (is_partial : Bool) (columns : List Typed) (event : RowsEvent) (rows : Rows) (before after : Bool) → AreAllRows is_partial columns event rows
    → before ≡ is_some event.columns.before → after ≡ is_some event.columns.after → HasImages before after rows
has_images is_partial columns event rows before after all has_before has_after = λ cells rest is.
    let present = images_present rows.row (row_shape rows) rows.rest.now rest cells is in
    let shape_before : is_some (row_shape rows).images.0 ≡ is_some event.columns.before =
    ap (λ (shape : RowsShape). is_some shape.images.0) all.shape ∙ some_shape columns event.columns.before in
    let shape_after : is_some (row_shape rows).images.1 ≡ is_some event.columns.after =
    ap (λ (shape : RowsShape). is_some shape.images.1) all.shape ∙ some_shape columns event.columns.after in
    (has_before ∙ sym shape_before ∙ sym present.0, has_after ∙ sym shape_after ∙ sym present.1)

pub some_bits : {A : Type 0} (view : A → Bitmap) (bits : Option A) (stored : Option Bitmap) → option_map view bits ≡ stored → is_some bits ≡ is_some stored
some_bits view None stored is = ap (λ (o : Option Bitmap). is_some o) is
some_bits view (Some bits) stored is = ap (λ (o : Option Bitmap). is_some o) is
