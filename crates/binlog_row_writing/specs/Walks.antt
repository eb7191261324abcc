-- The columns of an image, one after the other, and the values for those that are present.
use Rattle.std.specs.Prelude.{ℕ, ◌+◌, List, get_or, Option, None, Some, if◌then◌else◌}
use Rattle.binlog_rows.specs.Columns.{Bitmap}
use Rattle.binlog_images.specs.Bits.{is_set, next_place}
use Rattle.binlog_row_writing.specs.declared.new_value.NewValue.{NewValue}
use Rattle.binlog_row_writing.specs.declared.new_value.NewValue.TheVariants.{Null}

-- Which columns are present, the index of a column among all columns, and its index among those that are present.
pub record WalkView : Type 0 where
  pub present : Bitmap
  pub index : ℕ
  pub place : ℕ

abbrev pub first_walk : Bitmap → WalkView
first_walk present = record { present = present; index = 0; place = 0 }

-- The column after this one.
abbrev pub next_walk : WalkView → WalkView
next_walk walk = record { present = walk.present; index = walk.index + 1; place = next_place (is_set walk.present walk.index) walk.place }

-- The value at a place; NULL beyond the last one.
abbrev pub value_of : List NewValue → ℕ → NewValue
value_of values place = get_or values place Null

-- The value of the column; None if it is absent.
abbrev pub value_at : WalkView → List NewValue → Option NewValue
value_at walk values = if is_set walk.present walk.index then Some (value_of values walk.place) else None
