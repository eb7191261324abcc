-- The rows of an event are undone one after the other.
use Rattle.std.proofs.Common.{◌≡◌, ℕ, ◌+◌, inl, inr, List, [], false, Some, Result, Ok, Err, sym, ◌∙◌, ap, subst}
use Rattle.std.specs.Global.{Vec}
use Rattle.binlog_wire.specs.Fields.{IsBytes}
use Rattle.binlog_columns.specs.TableColumns.{columns_of}
use Rattle.binlog_rows.specs.Images.{bitmap_of}
use Rattle.binlog_images.specs.Cells.{ImageShape, RowShape, RowsShape, shape_as, whole}
use Rattle.binlog_images.specs.RowCells.{row_cells}
use Rattle.binlog_images.specs.RowsLeft.{row_shape}
use Rattle.binlog_images.specs.Splits.{first_row}
use Rattle.binlog_images.specs.StoredRows.{IsStored, GivesStored}
use Rattle.binlog_images.specs.declared.rows.Rows.{Rows}
use Rattle.binlog_images.specs.declared.rows_error.RowsError.{RowsError}
use Rattle.binlog_images.specs.declared.stored_row.StoredRow.{StoredRow}
use Rattle.binlog_undo.specs.Outcomes.{undone_by, Fits, IsUnreadable, IsPrepended, PrependsRow, GivesUndoing}
use Rattle.binlog_undo.specs.RowBytes.{IsRowBytes}
use Rattle.binlog_undo.specs.Undoing.{Undoes, IsRefused, IsExchangedBy, stored_bytes}
use Rattle.binlog_undo.specs.declared.undo_error.UndoError.{UndoError}
use Rattle.binlog_undo.specs.declared.undo_error.UndoError.TheVariants as errors
use Rattle.binlog_undo.specs.declared.undoing.Undoing.{Undoing}
use Rattle.binlog_undo.specs.declared.undoing.Undoing.TheVariants.{Exchange, Complete}
use Rattle.binlog_undo.proofs.Completed.{never_refused}
use Rattle.binlog_undo.proofs.SoFar.{SoFar, none_so_far, one_more_so_far, all_so_far, refused_so_far}
use Rattle.binlog_undo.proofs.Stored.{stored_is}

-- The rows are whole.
is_whole : (undoing : Undoing) (shape : RowsShape) → Fits undoing shape → shape ≡ whole shape.images
is_whole Exchange shape fits = ap (λ p. shape_as p shape.images) fits
is_whole (Complete images) shape fits = fits ∙ ap whole (sym (ap (λ (s : RowsShape). s.images) fits))

-- The rows that are left have the images of those that were there.
pub stored_whole : (undoing : Undoing) (index : ℕ) (shape other : RowsShape) (s next : List ℕ) (row : StoredRow) → Fits undoing shape → other ≡ shape
    → IsStored index other s row next → IsStored index (whole shape.images) s row next
stored_whole undoing index shape other s next row fits same h =
    subst (λ (p : RowsShape). IsStored index p s row next) (same ∙ is_whole undoing shape fits) h

-- One more row is undone.
pub one_more : (undoing : Undoing) (start : ℕ) (shape other : RowsShape) (s : List ℕ) (index : ℕ) (rest next old new : List ℕ) (row : StoredRow) → Fits undoing shape → other ≡ shape
    → (IsBytes s → SoFar (undone_by undoing) shape.images start s index rest old) → IsStored index other rest row next → IsPrepended undoing row old new
    → IsBytes s → SoFar (undone_by undoing) shape.images start s (index + 1) next new
one_more undoing start shape other s index rest next old new row fits same h stored more bytes =
    one_more_so_far (undone_by undoing) shape.images start s index rest next old new row more.others (h bytes)
    (stored_whole undoing index shape other rest next row fits same stored) more.undone more.bytes

-- All rows are undone.
pub all_undone : (undoing : Undoing) (start : ℕ) (shape : RowsShape) (s : List ℕ) (index : ℕ) (rest bytes result : List ℕ)
    → (IsBytes s → SoFar (undone_by undoing) shape.images start s index rest bytes) → rest ≡ [] → result ≡ bytes
    → IsBytes s → Undoes (undone_by undoing) shape.images s result
all_undone undoing start shape s index rest bytes result h none same fits =
    subst (λ (r : List ℕ). Undoes (undone_by undoing) shape.images s r) (sym same) (all_so_far (undone_by undoing) shape.images start s index rest bytes (h fits) none)

-- A row is refused.
pub row_refused : (undoing : Undoing) (start : ℕ) (shape other : RowsShape) (s : List ℕ) (index : ℕ) (rest bytes : List ℕ) (error : RowsError) → Fits undoing shape → other ≡ shape
    → (IsBytes s → SoFar (undone_by undoing) shape.images start s index rest bytes) → ¬ (rest ≡ []) → first_row index other rest ≡ Err error
    → IsBytes s → IsRefused shape.images start s error
row_refused undoing start shape other s index rest bytes error fits same h some is all =
    refused_so_far (undone_by undoing) shape.images start s index rest bytes error (h all) some
    (ap (λ (p : RowsShape). first_row index p rest) (sym (same ∙ is_whole undoing shape fits)) ∙ is)

unreadable_by : (undoing : Undoing) (index : ℕ) (shape : RowsShape) (s next : List ℕ) (row : StoredRow) → Fits undoing shape → IsBytes s
    → IsStored index (whole shape.images) s row next → IsUnreadable undoing row → ⊥
unreadable_by Exchange index shape s next row fits bytes stored h = h
unreadable_by (Complete images) index shape s next row fits bytes stored h =
    let before : ImageShape = (columns_of images.columns, bitmap_of images.before) in
    let after : ImageShape = (columns_of images.columns, bitmap_of images.after) in
    let same : shape.images ≡ (Some before, Some after) = ap (λ (p : RowsShape). p.images) fits in
    let is = stored_is index shape.images s next row bytes stored in
    let row_is : IsRowBytes (Some before, Some after) (stored_bytes row) (row_cells row.row) = subst (λ (p : RowShape). IsRowBytes p (stored_bytes row) (row_cells row.row)) same is.0 in
    elim h [
      | inl fault ↦ never_refused before row.before.now row_is.stored.0 row_is.before fault
      | inr fault ↦ never_refused after row.after.now row_is.stored.1 row_is.after fault
    ]

-- Each image of a row that was taken can be read.
pub never_unreadable : (undoing : Undoing) (start : ℕ) (shape other : RowsShape) (s : List ℕ) (index : ℕ) (rest next bytes : List ℕ) (row : StoredRow) → Fits undoing shape → other ≡ shape
    → (IsBytes s → SoFar (undone_by undoing) shape.images start s index rest bytes) → IsStored index other rest row next → IsUnreadable undoing row → IsBytes s → ⊥
never_unreadable undoing start shape other s index rest next bytes row fits same h stored unreadable all =
    unreadable_by undoing index shape rest next row fits (h all).fits (stored_whole undoing index shape other rest next row fits same stored) unreadable

-- No row is undone yet.
pub nothing_yet : (undoing : Undoing) (start : ℕ) (shape : RowShape) (s bytes : List ℕ) → bytes ≡ [] → IsBytes s → SoFar (undone_by undoing) shape start s start s bytes
nothing_yet undoing start shape s bytes none fits = none_so_far (undone_by undoing) shape start s bytes fits none

-- ---- images that are exchanged

pub whole_if : (undoing : Undoing) (shape : RowsShape) → undoing ≡ Exchange → Fits undoing shape → shape.is_partial ≡ false
whole_if undoing shape is fits = subst (λ (u : Undoing). Fits u shape) is fits

pub exchanged_as : (undoing : Undoing) (rows : Rows) (answer : Result (Vec ℕ) UndoError) → undoing ≡ Exchange → (IsBytes rows.rest.now → GivesUndoing IsExchangedBy rows answer)
    → IsBytes rows.rest.now → GivesUndoing (undone_by undoing) rows answer
exchanged_as undoing rows answer is h bytes = subst (λ (u : Undoing). GivesUndoing (undone_by u) rows answer) (sym is) (h bytes)

-- ---- one turn of the loop

module _ (undoing : Undoing) (start : ℕ) (shape : RowsShape) (s : List ℕ) (old new : Rows) (given : Result StoredRow RowsError) (row : StoredRow) (before after : List ℕ)
    (fits : Fits undoing shape) (same : row_shape old ≡ shape) (so_far : IsBytes s → SoFar (undone_by undoing) shape.images start s old.row old.rest.now before)
    (gives : GivesStored old (Some given) new) (is : given ≡ Ok row) where
  -- The row that was taken.
  abbrev Taken : Type 0
  Taken = IsStored old.row (row_shape old) old.rest.now row new.rest.now × (new.row ≡ old.row + 1) × (row_shape new ≡ row_shape old)

  taken : Taken
  taken = subst (λ (g : Result StoredRow RowsError). GivesStored old (Some g) new) is gives

  pub turn : IsPrepended undoing row before after → (row_shape new ≡ shape) × (IsBytes s → SoFar (undone_by undoing) shape.images start s new.row new.rest.now after)
  turn prepended = (
    taken.2 ∙ same,
    λ bytes. subst (λ (n : ℕ). SoFar (undone_by undoing) shape.images start s n new.rest.now after) (sym taken.1)
        (one_more undoing start shape (row_shape old) s old.row old.rest.now new.rest.now before after row fits same so_far taken.0 prepended bytes),
  )

  pub failed : (rows : Rows) (error : UndoError) → PrependsRow undoing row before after (Err error) → IsBytes s → GivesUndoing (undone_by undoing) rows (Err error)
  failed rows (errors.Event e) h bytes = absurd h
  failed rows (errors.Rows e) h bytes = absurd h
  failed rows errors.Image h bytes =
      absurd (never_unreadable undoing start shape (row_shape old) s old.row old.rest.now new.rest.now before row fits same so_far taken.0 h bytes)
  failed rows (errors.PartialJson r) h bytes = absurd h
  failed rows errors.Memory h bytes = tt
