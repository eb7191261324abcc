-- The written bytes of a row event, by its parts, are those of its form.
use Rattle.std.specs.Prelude.{◌≡◌, ℕ, Bool, true, false, Option, Some, None, is_some, List, refl, if◌then◌else◌, ◌++◌}
use Rattle.std.proofs.Common.{ap, ◌∙◌, sym}
use Rattle.binlog_wire.specs.Fields.{little_bytes}
use Rattle.binlog_variable_fields.specs.LenEnc.{lenenc_written}
use Rattle.binlog_rows.specs.Rows.{extra_in, extra_written, image, image_written, rows, IsOfForm, rows_written}
use Rattle.binlog_rows.specs.Columns.{Bitmap, id_width}
use Rattle.binlog_rows.specs.declared.rows_event.RowsEvent.{RowsEvent}
use Rattle.binlog_rows.specs.Forms.{default_length}
use Rattle.binlog_rows.specs.declared.rows_form.RowsForm.{RowsForm}

extra_as : (has_extra : Bool) (o : Option (List ℕ)) → is_some o ≡ has_extra → extra_written o ≡ (extra_in has_extra (if has_extra then 10 else 8)).written o
extra_as true (Some s) e = refl
extra_as true None e = absurd cc
extra_as false (Some s) e = absurd cc
extra_as false None e = refl

image_as : (has_image : Bool) (count : ℕ) (o : Option Bitmap) → is_some o ≡ has_image → image_written o ≡ (image has_image count).written o
image_as true count (Some columns) e = refl
image_as true count None e = absurd cc
image_as false count (Some columns) e = absurd cc
image_as false count None e = refl

-- Table ids have 6 bytes if a description states no post-header length.
width_as : (has_extra : Bool) → 6 ≡ id_width (if has_extra then 10 else 8)
width_as true = refl
width_as false = refl

-- The encoding of an event with a table id of this length and these parts.
abbrev parts : RowsEvent → ℕ → List ℕ → List ℕ → List ℕ → List ℕ
parts e width extra before after =
    (little_bytes width e.head.table_id ++ (little_bytes 2 e.head.flags ++ extra)) ++ ((lenenc_written e.columns.count ++ (before ++ after)) ++ e.rows)

pub rows_written_is : (form : RowsForm) (e : RowsEvent) → IsOfForm form e → rows_written e ≡ (rows form (default_length form)).written e
unfolding rows
rows_written_is form e h =
    let width : ℕ = id_width (default_length form) in
    let extra : List ℕ = (extra_in form.has_extra (default_length form)).written e.head.extra in
    let before : List ℕ = (image form.has_before e.columns.count).written e.columns.before in
    ap (λ (k : ℕ). parts e k (extra_written e.head.extra) (image_written e.columns.before) (image_written e.columns.after)) (width_as form.has_extra)
    ∙ ap (λ (s : List ℕ). parts e width s (image_written e.columns.before) (image_written e.columns.after)) (extra_as form.has_extra e.head.extra h.extra)
    ∙ ap (λ (s : List ℕ). parts e width extra s (image_written e.columns.after)) (image_as form.has_before e.columns.count e.columns.before h.before.0)
    ∙ ap (λ (s : List ℕ). parts e width extra before s) (image_as form.has_after e.columns.count e.columns.after h.after.0)

-- The same for a post-header of that length.
pub rows_written_under : (form : RowsForm) (e : RowsEvent) (k : ℕ) → k ≡ default_length form → (rows form (default_length form)).written e ≡ (rows form k).written e
rows_written_under form e k same = ap (λ (n : ℕ). (rows form n).written e) (sym same)
