-- Images that are made column by column.
use Rattle.std.specs.Prelude.{◌≡◌, List}
use Rattle.binlog_images.specs.StoredColumns.{Stored}
use Rattle.binlog_undo.specs.Completion.{values_of, null_flags}
use Rattle.binlog_undo.specs.declared.completion.NewImage.{NewImage}

-- The image has these columns.
pub record HasColumns (columns : List Stored) (image : NewImage) : Type 0 where
  pub nulls : image.nulls.items ≡ null_flags columns
  pub values : image.values.items ≡ values_of columns
