-- The row events, types 23 to 25, 30 to 32 and 39: rows of a table that were written, updated or deleted. Table id;
-- flags (2); if the post-header has a length of 10, extra bytes after a 2-byte length that includes itself; number of
-- columns, length-encoded; for each row image of the type a bitmap, whose bit is set if the column is in that image;
-- the rows, to the end. Types 23 to 25 are the older ones (V1), which keep no extra bytes.
-- Source: MySQL's documentation of its source code, `mysql::binlog::event::Rows_event`.
use Rattle.std.specs.Prelude.{ℕ, ◌+◌, List, length, Ok, Option, Some, unwrap_or, refl, Bool, true, false, None, [], ◌==◌, ◌≡◌, is_some, IfSome, ◌++◌}
use Rattle.binlog_wire.specs.Formats.{Format, Place, made, anywhere, silent, number, ◌⨾◌, seen_as, then, last, rest}
use Rattle.binlog_wire.specs.Fields.{little_bytes}
use Rattle.binlog_variable_fields.specs.Formats.{chosen, lenenc}
use Rattle.binlog_variable_fields.specs.Chosen.{choose}
use Rattle.binlog_variable_fields.specs.LenEnc.{lenenc_written}
use Rattle.binlog_rows.specs.ExtraBytes.{kept_extra, counted}
use Rattle.binlog_rows.specs.Laws.ExtraBytes.{extra_choice, forgotten_choice}
use Rattle.binlog_rows.specs.Columns.{table_id, Bitmap, bitmap}
use Rattle.binlog_rows.specs.declared.rows_form.RowsForm.{RowsForm}
use Rattle.binlog_rows.specs.declared.rows_head.RowsHead.{RowsHead}
use Rattle.binlog_rows.specs.declared.rows_columns.RowsColumns.{RowsColumns}
use Rattle.binlog_rows.specs.declared.rows_event.RowsEvent.{RowsEvent}

-- ---- extra bytes

-- Extra bytes after a length that includes itself.
abbrev pub extra : {place : Place} → Format place (List ℕ)
extra = chosen (λ x. Ok x.1) (λ s. (2 + length (kept_extra s), kept_extra s)) kept_extra (λ s. Unit {0}) counted extra_choice

-- A value that isn't kept: it is read as x whatever its bytes, and written as v.
abbrev pub forgotten : {place : Place} {V W : Type 0} → W → V → Format place V → Format place W
forgotten x v f = chosen (λ u. Ok x) (λ w. v) (λ w. x) (λ w. f.Fits v) f (forgotten_choice x v f)

-- A value that is present; None is written as v.
abbrev pub present : {place : Place} {V : Type 0} → V → Format place V → Format place (Option V)
present v f = made (λ x. Some x) (λ o. unwrap_or o v) f (λ s a r h. refl) (λ o. refl)

-- The extra bytes of an event without a length field for them: empty if its type keeps them, else None.
abbrev pub no_extra : Bool → Option (List ℕ)
no_extra true = Some []
no_extra false = None

-- The extra bytes of an event whose type keeps them or not. They are encoded only if the post-header has a length of
-- 10; a type that doesn't keep them drops them.
abbrev pub extra_in : Bool → ℕ → Format anywhere (Option (List ℕ))
extra_in has_extra post_header =
    choose (post_header == 10)
    (choose has_extra (present [] extra) (forgotten None [] extra))
    (silent (no_extra has_extra))

-- ---- part by part

-- The table id, the flags and the extra bytes.
abbrev pub head : RowsForm → ℕ → Format anywhere RowsHead
head form post_header = seen_as
    (λ x. record { table_id = x.0; flags = x.1.0; extra = x.1.1 })
    (λ h. (h.table_id, (h.flags, h.extra))) (λ _. refl) (λ _. refl)
    (table_id post_header ⨾ number 2 ⨾ extra_in form.has_extra post_header)

-- The columns-present bitmap of this many columns, in an event that has this image or not.
abbrev pub image : Bool → ℕ → Format anywhere (Option Bitmap)
image has_image count = choose has_image (present (count, []) (bitmap count)) (silent None)

-- The number of columns, and the columns-present bitmap of each image.
abbrev pub columns : RowsForm → Format anywhere RowsColumns
columns form = seen_as
    (λ x. record { count = x.0; before = x.1.0; after = x.1.1 })
    (λ c. (c.count, (c.before, c.after))) (λ _. refl) (λ _. refl)
    (then lenenc (λ count. image form.has_before count ⨾ image form.has_after count))

-- The body of a row event of this form, for a post-header of this length.
unfoldable pub rows : RowsForm → ℕ → Format last RowsEvent
rows form post_header = seen_as
    (λ x. record { head = x.0; columns = x.1.0; rows = x.1.1 })
    (λ e. (e.head, (e.columns, e.rows))) (λ _. refl) (λ _. refl)
    (head form post_header ⨾ columns form ⨾ rest)

-- ---- the parts of an event

-- The bitmap of an image for this many columns is present, or absent.
abbrev pub IsImage : Bool → ℕ → Option Bitmap → Type 0
IsImage has_image count o = (is_some o ≡ has_image) × IfSome o (λ columns. columns.0 ≡ count)

-- The event has exactly the parts of this form.
pub record IsOfForm (form : RowsForm) (e : RowsEvent) : Type 0 where
  pub extra : is_some e.head.extra ≡ form.has_extra
  pub before : IsImage form.has_before e.columns.count e.columns.before
  pub after : IsImage form.has_after e.columns.count e.columns.after

-- ---- the written bytes of an event, by its parts

-- The extra bytes after their length; no bytes if the type keeps none.
abbrev pub extra_written : Option (List ℕ) → List ℕ
extra_written (Some s) = little_bytes 2 (2 + length (kept_extra s)) ++ kept_extra s
extra_written None = []

-- The table id in 6 bytes, the flags and the extra bytes.
abbrev pub head_written : RowsHead → List ℕ
head_written h = little_bytes 6 h.table_id ++ (little_bytes 2 h.flags ++ extra_written h.extra)

-- The columns-present bitmap, if the event has this image.
abbrev pub image_written : Option Bitmap → List ℕ
image_written (Some columns) = columns.1
image_written None = []

-- The number of columns, and the bitmaps.
abbrev pub columns_written : RowsColumns → List ℕ
columns_written c = lenenc_written c.count ++ (image_written c.before ++ image_written c.after)

-- The encoding of a row event, by its parts.
abbrev pub rows_written : RowsEvent → List ℕ
rows_written e = head_written e.head ++ (columns_written e.columns ++ e.rows)
