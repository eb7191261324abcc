-- A column that is absent, NULL, a value, or a list of diffs.
use Rattle.std.proofs.Common.{◌≡◌, ℕ, Bool, true, false, List, Ok, Err, refl}
use Rattle.binlog_wire.specs.Reading.{Refusal}
use Rattle.binlog_columns.specs.Metadata.{Typed}
use Rattle.binlog_columns.specs.Layouts.{layout_of}
use Rattle.binlog_values.specs.Contents.{Content, content_in}
use Rattle.binlog_values.specs.Values.{Meaning, meaning_in}
use Rattle.binlog_images.specs.Cells.{absent, null, value, diff_list, cell_as}

pub absent_read : (are_diffs : Bool) (column : Typed) (present is_null : Bool) (s : List ℕ) → present ≡ false
    → (cell_as are_diffs column present is_null).reads s ≡ Ok (absent, s)
absent_read false column present is_null s p = rw p refl
absent_read true column present is_null s p = rw p refl

pub null_read : (are_diffs : Bool) (column : Typed) (present is_null : Bool) (s : List ℕ) → present ≡ true → is_null ≡ true
    → (cell_as are_diffs column present is_null).reads s ≡ Ok (null, s)
null_read false column present is_null s p n = rw (p, n) refl
null_read true column present is_null s p n = rw (p, n) refl

pub value_read : (are_diffs : Bool) (column : Typed) (present is_null : Bool) (s rest : List ℕ) (m : Meaning) (c : Content) → are_diffs ≡ false → present ≡ true → is_null ≡ false
    → (content_in (layout_of column)).reads s ≡ Ok (c, rest) → m ≡ meaning_in column → (cell_as are_diffs column present is_null).reads s ≡ Ok (value m c, rest)
value_read are_diffs column present is_null s rest m c d p n read same = rw (d, p, n, read, same) refl

pub diffs_read : (are_diffs : Bool) (column : Typed) (present is_null : Bool) (s rest : List ℕ) (c : Content) → are_diffs ≡ true → present ≡ true → is_null ≡ false
    → (content_in (layout_of column)).reads s ≡ Ok (c, rest) → (cell_as are_diffs column present is_null).reads s ≡ Ok (diff_list c, rest)
diffs_read are_diffs column present is_null s rest c d p n read = rw (d, p, n, read) refl

refused_when : (are_diffs : Bool) (column : Typed) (s : List ℕ) (d : Refusal) → (content_in (layout_of column)).reads s ≡ Err d
    → (cell_as are_diffs column true false).reads s ≡ Err d
refused_when false column s d h = rw h refl
refused_when true column s d h = rw h refl

pub refused_read : (are_diffs : Bool) (column : Typed) (present is_null : Bool) (s : List ℕ) (d : Refusal) → present ≡ true → is_null ≡ false
    → (content_in (layout_of column)).reads s ≡ Err d → (cell_as are_diffs column present is_null).reads s ≡ Err d
refused_read are_diffs column present is_null s d p n h = rw (p, n) (refused_when are_diffs column s d h)
