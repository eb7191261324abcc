-- The columns that an image has left.
use Rattle.std.specs.Prelude.{List, Option, option_map, Result, Ok, Err}
use Rattle.binlog_columns.specs.TableColumns.{columns_of}
use Rattle.binlog_images.specs.BitsOf.{bits_of}
use Rattle.binlog_images.specs.Cells.{Cell}
use Rattle.binlog_images.specs.DiffsOf.{diffs_of}
use Rattle.binlog_images.specs.Images.{cells_in}
use Rattle.binlog_images.specs.declared.image.Image.{Image}
use Rattle.binlog_images.specs.declared.rows_error.ImageError.{ImageError}
use Rattle.binlog_images.specs.declared.rows_error.RowsError.{RowsError}

abbrev pub cells_of : Image → List Cell
cells_of image = cells_in (diffs_of image.diffs) (columns_of image.columns) (bits_of image.bits) image.rest.now

-- An answer, with the columns of its image.
abbrev pub answer_cells : Result Image ImageError → Result (List Cell) ImageError
answer_cells (Ok image) = Ok (cells_of image)
answer_cells (Err e) = Err e

abbrev pub answer_image : Result (Option Image) RowsError → Result (Option (List Cell)) RowsError
answer_image (Ok image) = Ok (option_map cells_of image)
answer_image (Err e) = Err e
