-- A row event that was read can be written.
use Rattle.std.proofs.Common.{ℕ, ◌^◌, ◌<◌, Bool, true, false, cond, Option, List, length, ap, ◌∙◌, eqb}
use Rattle.binlog_rows.specs.Columns.{id_width, Bitmap}
use Rattle.binlog_rows.specs.Rows.{extra_in, image, rows}
use Rattle.binlog_rows.specs.Forms.{default_length}
use Rattle.binlog_rows.specs.Laws.ReadTableMaps.{lenenc_small, id_small_by}
use Rattle.binlog_rows.specs.declared.rows_form.RowsForm.{RowsForm}
use Rattle.binlog_rows.specs.declared.rows_event.RowsEvent.{RowsEvent}

-- Table ids have 6 bytes if a description states no post-header length.
pub id_fits : (has_extra : Bool) (id : ℕ) → id < 256 ^ 6 → id < 256 ^ id_width (cond has_extra 10 8)
id_fits true id small = small
id_fits false id small = small

pub extra_fits : (has_extra : Bool) (o : Option (List ℕ)) → (extra_in has_extra (cond has_extra 10 8)).Fits o
extra_fits true o = tt
extra_fits false o = tt

image_fits : (has_image : Bool) (count : ℕ) (s : List ℕ) (o : Option Bitmap) (r : List ℕ) → (image has_image count).spells s o r → (image has_image count).Fits o
image_fits true count s o r h = rw h.1 (ap (λ (b : Bitmap). length b.1) h.2.1 ∙ h.2.2.0)
image_fits false count s o r h = tt

-- A row event that was read under any description fits the format in which it is written.
pub read_rows_fit : (form : RowsForm) (post_header : ℕ) (s : List ℕ) (e : RowsEvent) (r : List ℕ) → (rows form post_header).spells s e r → (rows form (default_length form)).Fits e
unfolding rows
read_rows_fit form post_header s e r h =
    let images = h.2.1.2 in (
      (id_fits form.has_extra e.head.table_id (id_small_by (eqb post_header 6) e.head.table_id h.1.1.0), (h.1.2.1.0, extra_fits form.has_extra e.head.extra)),
      (
        (
          lenenc_small h.0 e.columns.count h.2.1.0 h.2.1.1,
          (
            image_fits form.has_before e.columns.count h.2.1.0 e.columns.before images.0 images.1,
            image_fits form.has_after e.columns.count images.0 e.columns.after h.2.0 images.2,
          ),
        ),
        tt,
      ),
    )
