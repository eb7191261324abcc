-- Which columns of a row a visitor has visited, for any visitor.
use Rattle.std.specs.Prelude.{◌≡◌, ℕ, ◌+◌, List, [], ◌∷◌, Option, None, Some, Result, Ok, Err}
use Rattle.binlog_images.specs.Cells.{Cell, RowCells}
use Rattle.binlog_images.specs.Fronts.{row_front}
use Rattle.binlog_images.specs.RowsLeft.{row_shape}
use Rattle.binlog_images.specs.Splits.{first_row}
use Rattle.binlog_images.specs.declared.rows.Rows.{Rows}
use Rattle.binlog_images.specs.declared.rows_error.ImageKind.{ImageKind}
use Rattle.binlog_images.specs.declared.rows_error.ImageKind.TheVariants.{Before, After}
use Rattle.binlog_images.specs.declared.rows_error.RowsError.{RowsError}

-- `visits old image index cell new` says what a visit of the column with this index of an image makes of a visitor.
abbrev pub VisitRelation : Type 0 → Type 1
VisitRelation T = T → ImageKind → ℕ → Cell → T → Type 0

-- A visit of a column that changes nothing.
abbrev pub Skips : {T : Type 0} → VisitRelation T
Skips old image index cell new = new ≡ old

module _ {T : Type 0} (visits : VisitRelation T) where
  -- These columns of an image are visited one after another, where `index` is that of the first.
  abbrev pub VisitsColumns : ImageKind → ℕ → List Cell → T → T → Type 0
  VisitsColumns image index [] old new = new ≡ old
  VisitsColumns image index (cell ∷ cells) old new = (mid : T) × visits old image index cell mid × VisitsColumns image (index + 1) cells mid new

  -- The columns of an image are visited, if the row has it.
  abbrev pub VisitsImage : ImageKind → Option (List Cell) → T → T → Type 0
  VisitsImage image None old new = new ≡ old
  VisitsImage image (Some cells) old new = VisitsColumns image 0 cells old new

  -- The columns of the image before are visited, and then those of the image after.
  pub record VisitsImages (row : RowCells) (old new : T) : Type 0 where
    pub mid : T
    pub before : VisitsImage Before row.0 old mid
    pub after : VisitsImage After row.1 mid new

  -- The first row that is left is visited, and the bytes after it are left.
  pub record VisitsFirst (old : Rows) (before : T) (new : Rows) (after : T) : Type 0 where
    pub cells : RowCells
    pub first : first_row old.row (row_shape old) old.rest.now ≡ Ok (cells, new.rest.now)
    pub row : new.row ≡ old.row + 1
    pub shape : row_shape new ≡ row_shape old
    pub visited : VisitsImages cells before after

  -- One call visits the first row that is left; or it is refused, after the columns in front of the fault are visited, no
  -- bytes are left and all else is as before; or nothing is left, and nothing is visited.
  abbrev pub VisitsRow : Rows → T → Option (Result (Unit {0}) RowsError) → Rows → T → Type 0
  VisitsRow old before None new after = (old.rest.now ≡ []) × (new ≡ old) × (after ≡ before)
  VisitsRow old before (Some (Ok done)) new after = VisitsFirst old before new after
  VisitsRow old before (Some (Err e)) new after = (¬ (old.rest.now ≡ [])) × (first_row old.row (row_shape old) old.rest.now ≡ Err e)
      × (new.rest.now ≡ []) × (new.row ≡ old.row) × (row_shape new ≡ row_shape old)
      × VisitsImages (row_front old.row (row_shape old) old.rest.now) before after
