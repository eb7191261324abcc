-- Null bitmaps: a bit for each value.
use Rattle.std.specs.Prelude.{ℕ, Bool, List, [], ◌∷◌, map}
use Rattle.binlog_images.specs.NullBits.{nulls_of}
use Rattle.binlog_row_writing.specs.NewCells.{is_new_null}
use Rattle.binlog_row_writing.specs.Walks.{value_of}
use Rattle.binlog_row_writing.specs.declared.new_value.NewValue.{NewValue}

-- Of each value, whether it is NULL.
abbrev pub null_flags : List NewValue → List Bool
null_flags values = map is_new_null values

-- Whether the value at a place is NULL; true beyond the last one.
abbrev pub is_null_at : List NewValue → ℕ → Bool
is_null_at values place = is_new_null (value_of values place)

-- Of the first eight values; true beyond the last value.
abbrev pub first_flags : List NewValue → List Bool
first_flags values =
    is_null_at values 0 ∷ is_null_at values 1 ∷ is_null_at values 2 ∷ is_null_at values 3 ∷ is_null_at values 4 ∷ is_null_at values 5 ∷ is_null_at values 6 ∷ is_null_at values 7 ∷ []

abbrev pub new_nulls : List NewValue → List ℕ
new_nulls values = nulls_of (null_flags values)
