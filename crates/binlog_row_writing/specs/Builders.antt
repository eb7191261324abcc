-- Builders as contracts see them.
use Rattle.std.specs.Prelude.{option_map}
use Rattle.binlog_images.specs.Cells.{RowShape}
use Rattle.binlog_row_writing.specs.ImageViews.{shape_of}
use Rattle.binlog_row_writing.specs.declared.rows_builder.RowsBuilder.{RowsBuilder}

-- The images of the rows.
abbrev pub builder_shape : RowsBuilder → RowShape
builder_shape rows = (option_map shape_of rows.before, option_map shape_of rows.after)
