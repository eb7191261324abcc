-- Which bits of an image belong to which column.
use Rattle.std.specs.Prelude.{◌≡◌, ◌<◌, ◌≤◌, ℕ, ◌&&◌, Bool, true, false, List, take, length, slice_index_or, Option, None, Some}
use Rattle.binlog_columns.specs.Metadata.{Typed}
use Rattle.binlog_rows.specs.Columns.{Bitmap}
use Rattle.binlog_images.specs.Bits.{is_set, set_count}
use Rattle.binlog_images.specs.Diffs.{is_json, json_count}
use Rattle.binlog_images.specs.Cells.{Cell, absent, null, value, diff_list}

-- A column that is present or not, NULL or not, and, if it has a value, a list of diffs or not.
abbrev pub IsCellBy : Bool → Bool → Bool → Cell → Type 0
IsCellBy false is_null has_diffs cell = cell ≡ absent
IsCellBy true true has_diffs cell = cell ≡ null
IsCellBy true false has_diffs absent = ⊥
IsCellBy true false has_diffs null = ⊥
IsCellBy true false has_diffs (value meaning content) = has_diffs ≡ false
IsCellBy true false has_diffs (diff_list content) = has_diffs ≡ true

-- The diff bit of a JSON column is that of its number among all JSON columns of the table.
abbrev pub diffs_by : Option Bitmap → List Typed → Typed → Bool
diffs_by None before column = false
diffs_by (Some bits) before column = is_json column && is_set bits (json_count before)

-- There is a diff bit for each JSON column, if there are any.
abbrev pub HasDiffBits : Option Bitmap → List Typed → Type 0
HasDiffBits None columns = Unit {0}
HasDiffBits (Some bits) columns = json_count columns ≤ bits.0

-- Each column is what its bits say: the present bit is that of its index, and the null bit that of its number among the columns
-- that are present.
abbrev pub AreCellsBy : Option Bitmap → Bitmap → Bitmap → List Typed → List Cell → Type 0
AreCellsBy diffs present nulls columns cells = (k : ℕ) (d : Typed) (e : Cell) → k < length columns
    → IsCellBy (is_set present k) (is_set nulls (set_count k 0 present)) (diffs_by diffs (take k columns) (slice_index_or columns k d)) (slice_index_or cells k e)
