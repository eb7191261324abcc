-- The columns of an image as contracts see them.
use Rattle.std.specs.Prelude.{◌≡◌, ℕ, Option, IfSome}
use Rattle.binlog_columns.specs.TableColumns.{columns_of}
use Rattle.binlog_rows.specs.Images.{bitmap_of}
use Rattle.binlog_images.specs.Cells.{ImageShape}
use Rattle.binlog_images.specs.Diffs.{json_count}
use Rattle.binlog_images.specs.declared.image_columns.ImageColumns.{ImageColumns}

-- The columns of the table, and which of them are present.
abbrev pub shape_of : ImageColumns → ImageShape
shape_of columns = (columns_of columns.columns, bitmap_of columns.present)

-- The number of the table's JSON columns, if it is there and the image, too.
abbrev pub IsJsonCount : Option ℕ → Option ImageColumns → Type 0
IsJsonCount count columns = IfSome count (λ n. IfSome columns (λ of. n ≡ json_count (columns_of of.columns)))
