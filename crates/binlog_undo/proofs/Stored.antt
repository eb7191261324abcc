-- The bytes of the images of a row that was taken.
use Rattle.std.proofs.Common.{◌≡◌, ℕ, ◌-◌, ◌<◌, List, ◌++◌, length, Option, Result, Ok, Err, refl, sym, ◌∙◌, ap, subst, append_assoc, arith}
use Rattle.std.specs.Prelude.{option_map}
use Rattle.std.proofs.lemmas.List.{length-append, take_at}
use Rattle.binlog_wire.specs.Fields.{IsBytes}
use Rattle.binlog_wire.specs.Reading.{Read}
use Rattle.binlog_rows.specs.Columns.{Bitmap}
use Rattle.binlog_images.specs.Agreement.{Agrees}
use Rattle.binlog_images.specs.Cells.{Cell, ImageShape, image_if, RowShape, RowCells, whole}
use Rattle.binlog_images.specs.Images.{image_if_at}
use Rattle.binlog_images.specs.RowCells.{row_cells}
use Rattle.binlog_images.specs.StoredColumns.{front}
use Rattle.binlog_images.specs.StoredRows.{IsStored}
use Rattle.binlog_images.specs.declared.rows_error.ImageKind.{ImageKind}
use Rattle.binlog_images.specs.declared.rows_error.ImageKind.TheVariants.{Before, After}
use Rattle.binlog_images.specs.declared.rows_error.RowsError.{RowsError}
use Rattle.binlog_images.specs.declared.stored_row.StoredRow as declared
use Rattle.binlog_images.proofs.Agreement.{image_if_agrees}
use Rattle.binlog_undo.specs.FullImages.{IsFirstRow, sliced_bytes}
use Rattle.binlog_undo.specs.RowBytes.{Encodes, RowBytes, row_bytes, IsRowBytes}
use Rattle.binlog_undo.specs.Undoing.{stored_bytes}
use Rattle.binlog_undo.specs.declared.full_rows.RowSlices.{RowSlices}
use Rattle.binlog_undo.proofs.Local.{local_image_if}

-- The bytes in front of the last ones.
pub front_is : (w r : List ℕ) → front (w ++ r) r ≡ w
front_is w r = take_at w r (length (w ++ r) - length r) (omega (arith, length-append w r))

-- The stored image of an answer.
pub record IsImageOf (shape : Option ImageShape) (s behind : List ℕ) (cells : Option (List Cell)) : Type 0 where
  pub stored : Option (Bitmap × List Cell)
  pub encodes : Encodes (image_if shape) (front s behind) stored
  pub are : option_map (λ (x : Bitmap × List Cell). x.1) stored ≡ cells
  pub all : s ≡ front s behind ++ behind
  pub fits : IsBytes behind

given_image : (shape : Option ImageShape) (s behind : List ℕ) (cells : Option (List Cell)) (read : Read (Option (Bitmap × List Cell))) → (image_if shape).reads s ≡ read → IsBytes s
    → Agrees (option_map (λ (x : Bitmap × List Cell). x.1)) (λ (e : RowsError). e.kind) read (Ok (cells, behind)) → IsImageOf shape s behind cells
given_image shape s behind cells (Ok x) read fits agrees =
    let sound = (image_if shape).keeps.sound s x fits read in
    let rest : x.1 ≡ behind = ap (λ (p : Option (List Cell) × List ℕ). p.1) agrees in
    let spelled : (image_if shape).spells s x.0 behind = subst (λ (r : List ℕ). (image_if shape).spells s x.0 r) rest sound.0 in
    let local = local_image_if shape s x.0 behind spelled in
    let is : front s behind ≡ local.0 = ap (λ (t : List ℕ). front t behind) local.1 ∙ front_is local.0 behind in
    record {
      stored = x.0;
      encodes = subst (λ (w : List ℕ). Encodes (image_if shape) w x.0) (sym is) local.2;
      are = ap (λ (p : Option (List Cell) × List ℕ). p.0) agrees;
      all = local.1 ∙ ap (λ (w : List ℕ). w ++ behind) (sym is);
      fits = subst IsBytes rest sound.1;
    }
given_image shape s behind cells (Err d) read fits agrees = absurd agrees

image_given : (index : ℕ) (kind : ImageKind) (shape : Option ImageShape) (s behind : List ℕ) (cells : Option (List Cell)) → IsBytes s
    → image_if_at index kind shape s ≡ Ok (cells, behind) → IsImageOf shape s behind cells
image_given index kind shape s behind cells fits is =
    given_image shape s behind cells ((image_if shape).reads s) refl fits
    (subst (λ (r : Result (Option (List Cell) × List ℕ) RowsError). Agrees (option_map (λ (x : Bitmap × List Cell). x.1)) (λ (e : RowsError). e.kind) ((image_if shape).reads s) r)
    is (image_if_agrees index kind shape s))

-- The bytes of a row are those of its images.
images_are : (shape : RowShape) (s behind rest : List ℕ) (bytes : RowBytes) (cells : RowCells) → IsImageOf shape.0 s behind cells.0 → IsImageOf shape.1 behind rest cells.1
    → length rest < length s → bytes.before ≡ front s behind → bytes.after ≡ front behind rest → IsRowBytes shape bytes cells × (s ≡ row_bytes bytes ++ rest) × IsBytes rest
images_are shape s behind rest bytes cells before after less first second =
    let all : s ≡ row_bytes bytes ++ rest =
    before.all
    ∙ ap (λ (w : List ℕ). w ++ behind) (sym first)
    ∙ ap (λ (w : List ℕ). bytes.before ++ w) (after.all ∙ ap (λ (w : List ℕ). w ++ rest) (sym second))
    ∙ sym (append_assoc bytes.before bytes.after rest) in (
      record {
        stored = (before.stored, after.stored);
        before = subst (λ (w : List ℕ). Encodes (image_if shape.0) w before.stored) (sym first) before.encodes;
        after = subst (λ (w : List ℕ). Encodes (image_if shape.1) w after.stored) (sym second) after.encodes;
        are = ap (λ (c : Option (List Cell)). let x : RowCells = (c, option_map (λ (x : Bitmap × List Cell). x.1) after.stored) in x) before.are
            ∙ ap (λ (c : Option (List Cell)). let x : RowCells = (cells.0, c) in x) after.are;
        some = omega (arith, ap length all, length-append (row_bytes bytes) rest, less);
      },
      all,
      after.fits,
    )

-- The bytes of a row that was taken.
pub stored_is : (index : ℕ) (shape : RowShape) (s rest : List ℕ) (stored : declared.StoredRow) → IsBytes s → IsStored index (whole shape) s stored rest
    → IsRowBytes shape (stored_bytes stored) (row_cells stored.row) × (s ≡ row_bytes (stored_bytes stored) ++ rest) × IsBytes rest
stored_is index shape s rest stored fits h =
    let before = image_given index Before shape.0 s h.behind (row_cells stored.row).0 fits h.before in
    let after = image_given index After shape.1 h.behind rest (row_cells stored.row).1 before.fits h.after in
    images_are shape s h.behind rest (stored_bytes stored) (row_cells stored.row) before after h.shorter h.before_bytes h.after_bytes

-- The same of a row that was found.
pub first_row_is : (shape : RowShape) (s : List ℕ) (row : RowSlices) → IsBytes s → (h : IsFirstRow shape s row)
    → IsRowBytes shape (sliced_bytes row) (h.before.value, h.after.value) × (s ≡ row_bytes (sliced_bytes row) ++ row.rest.now) × IsBytes row.rest.now
first_row_is shape s row fits h =
    let before = image_given 0 Before shape.0 s h.behind h.before.value fits h.before.is in
    let after = image_given 0 Before shape.1 h.behind row.rest.now h.after.value before.fits h.after.is in
    images_are shape s h.behind row.rest.now (sliced_bytes row) (h.before.value, h.after.value) before after h.shorter h.before_bytes h.after_bytes
