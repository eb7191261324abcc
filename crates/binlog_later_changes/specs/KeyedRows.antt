-- Rows with the keys of their images, and what calls that read them answer.
use Rattle.std.specs.Prelude.{◌≡◌, ◌⊎◌, ℕ, List, map, Option, Some, None, option_map, Result, Ok, Err}
use Rattle.binlog_columns.specs.Metadata.{Typed}
use Rattle.binlog_images.specs.Cells.{ImageShape, RowShape}
use Rattle.binlog_images.specs.Images.{image_at}
use Rattle.binlog_images.specs.Stored.{IsFault}
use Rattle.binlog_images.specs.StoredColumns.{stored_image}
use Rattle.binlog_images.specs.declared.rows_error.RowsError.{RowsError}
use Rattle.binlog_rows.specs.Images.{bitmap_of}
use Rattle.binlog_undo.specs.RowBytes.{RowBytes}
use Rattle.binlog_undo.specs.Undoing.{IsRefused}
use Rattle.binlog_wire.specs.declared.bit_view.BitView.{BitView}
use Rattle.change_statistics.specs.Facts.{Name}
use Rattle.binlog_later_changes.specs.KnownRows.{RowImages, image_of, images_of, HasImages}
use Rattle.binlog_later_changes.specs.RowKeys.{key_code}
use Rattle.binlog_later_changes.specs.declared.known_rows.KeyedRow.{KeyedRow}
use Rattle.binlog_later_changes.specs.declared.known_rows.RowFault.{RowFault}
use Rattle.binlog_later_changes.specs.declared.known_rows.RowFault.TheVariants.{Unreadable, Memory}
use Rattle.binlog_later_changes.specs.declared.row_key.RowKey.{RowKey}

-- The keys of the row that is removed and of the row that is added.
abbrev pub Keys : Type 0
Keys = Option (List ℕ) × Option (List ℕ)

abbrev pub code_of : RowKey → List ℕ
code_of key = key.code.items

abbrev pub keys_in : KeyedRow → Keys
keys_in row = (option_map code_of row.removed, option_map code_of row.added)

abbrev pub keys_of : Name → RowImages → Keys
keys_of name images = (option_map (key_code name) images.0, option_map (key_code name) images.1)

-- The columns of a table, and those that are in an image, if there is one.
abbrev pub shape_if : List Typed → Option BitView → Option ImageShape
shape_if columns None = None
shape_if columns (Some bits) = Some (columns, bitmap_of bits)

-- ---- an image and a row

-- The image can't be read.
abbrev pub IsFaultIf : Option ImageShape → List ℕ → Type 0
IsFaultIf None s = ⊥
IsFaultIf (Some shape) s = IsFault (image_at shape s)

-- The key is that of the image; or the image can't be read; or memory was refused.
abbrev pub GivesKey : Name → ImageShape → List ℕ → Result RowKey RowFault → Type 0
GivesKey name shape s (Ok key) = code_of key ≡ key_code name (stored_image shape s)
GivesKey name shape s (Err Unreadable) = IsFault (image_at shape s)
GivesKey name shape s (Err Memory) = Unit {0}

abbrev pub GivesKeyIf : Name → Option ImageShape → List ℕ → Result (Option RowKey) RowFault → Type 0
GivesKeyIf name shape s (Ok key) = option_map code_of key ≡ option_map (key_code name) (image_of shape s)
GivesKeyIf name shape s (Err Unreadable) = IsFaultIf shape s
GivesKeyIf name shape s (Err Memory) = Unit {0}

abbrev pub GivesKeys : Name → RowShape → RowBytes → Result KeyedRow RowFault → Type 0
GivesKeys name shape bytes (Ok row) = keys_in row ≡ keys_of name (images_of shape bytes)
GivesKeys name shape bytes (Err Unreadable) = IsFaultIf shape.0 bytes.before ⊎ IsFaultIf shape.1 bytes.after
GivesKeys name shape bytes (Err Memory) = Unit {0}

-- ---- all rows

-- The bytes are rows with these keys, one after the other.
pub record HasKeys (name : Name) (shape : RowShape) (s : List ℕ) (rows : List KeyedRow) : Type 0 where
  pub images : List RowImages
  pub are : HasImages shape s images
  pub keys : map keys_in rows ≡ map (keys_of name) images

-- A row is refused, where the first one has this index; or memory was refused.
abbrev pub IsUnread : RowShape → (start : ℕ) → List ℕ → RowFault → Type 0
IsUnread shape start s Unreadable = (error : RowsError) × IsRefused shape start s error
IsUnread shape start s Memory = Unit {0}

-- ---- what is known

-- The keys are those of the rows, if they are known.
abbrev pub AreKeys : Name → Option (List RowImages) → Option (List KeyedRow) → Type 0
AreKeys name (Some images) (Some rows) = map keys_in rows ≡ map (keys_of name) images
AreKeys name (Some images) None = ⊥
AreKeys name None (Some rows) = ⊥
AreKeys name None None = Unit {0}

-- What is given is what is known. `Is` says what that is.
pub record GivesKnown (Is : Option (List RowImages) → Type 0) (name : Name) (given : Option (List KeyedRow)) : Type 0 where
  pub known : Option (List RowImages)
  pub is : Is known
  pub keys : AreKeys name known given
