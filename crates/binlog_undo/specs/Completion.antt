-- Images that are completed: where the image after an update lacks columns, the bytes of the row after the update have them from
-- the image before.
use Rattle.std.specs.Prelude.{◌≡◌, ℕ, Bool, true, false, List, [], ◌∷◌, ◌++◌}
use Rattle.std.specs.List.{flat_map}
use Rattle.binlog_columns.specs.Metadata.{Typed}
use Rattle.binlog_rows.specs.Columns.{Bitmap}
use Rattle.binlog_images.specs.NullBits.{nulls_of}
use Rattle.binlog_images.specs.StoredColumns.{Stored, absent, null, value, stored_image}
use Rattle.binlog_undo.specs.RowBytes.{RowBytes}

-- A column after an update: as it was if the image after doesn't have it.
abbrev pub updated_stored : Stored → Stored → Stored
updated_stored old absent = old
updated_stored old null = null
updated_stored old (value s) = value s

abbrev pub completed_stored : List Stored → List Stored → List Stored
completed_stored [] news = []
completed_stored (old ∷ olds) [] = old ∷ completed_stored olds []
completed_stored (old ∷ olds) (new ∷ news) = updated_stored old new ∷ completed_stored olds news

-- The bytes of the values.
abbrev pub value_bytes : Stored → List ℕ
value_bytes absent = []
value_bytes null = []
value_bytes (value s) = s

abbrev pub values_of : List Stored → List ℕ
values_of columns = flat_map value_bytes columns

-- Of each column that is there, whether it is NULL.
abbrev pub null_flag : Stored → List Bool
null_flag absent = []
null_flag null = true ∷ []
null_flag (value s) = false ∷ []

abbrev pub null_flags : List Stored → List Bool
null_flags columns = flat_map null_flag columns

-- The image of these columns: the null bitmap, and the values.
abbrev pub image_bytes : List Stored → List ℕ
image_bytes columns = nulls_of (null_flags columns) ++ values_of columns

-- The bytes of a row that undo a row with these bytes, of a table with these columns, of which these are present before and after
-- the update: the completed image after, and the image before.
pub record IsCompletedBy (table : List Typed) (old new : Bitmap) (bytes others : RowBytes) : Type 0 where
  pub before : others.before ≡ image_bytes (completed_stored (stored_image (table, old) bytes.before) (stored_image (table, new) bytes.after))
  pub after : others.after ≡ bytes.before
