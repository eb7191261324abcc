-- The columns of an image as contracts see them.
use Rattle.binlog_columns.specs.TableColumns.{columns_of}
use Rattle.binlog_rows.specs.Images.{bitmap_of}
use Rattle.binlog_images.specs.Cells.{ImageShape}
use Rattle.binlog_row_writing.specs.declared.image.ImageColumns.{ImageColumns}

-- The columns of the table, and which of them are present.
abbrev pub shape_of : ImageColumns → ImageShape
shape_of columns = (columns_of columns.columns, bitmap_of columns.present)
