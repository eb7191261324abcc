-- Row events whose images have all columns.
use Rattle.std.specs.Prelude.{Bool, true, ◌&&◌, not, Option, Some, None}
use Rattle.binlog_images.specs.EventRows.{is_partial}
use Rattle.binlog_rows.specs.Columns.{Bitmap}
use Rattle.binlog_rows.specs.RowsData.{event_in}
use Rattle.binlog_rows.specs.declared.rows_event_data.RowsEventData.{RowsEventData}
use Rattle.binlog_undo.specs.Coverage.{has_all}

-- Each column is in the image, if there is one.
abbrev pub has_all_if : Option Bitmap → Bool
has_all_if None = true
has_all_if (Some bits) = has_all bits

-- The rows are no partial updates, and each column is in each image.
abbrev pub is_complete : RowsEventData → Bool
is_complete event = not (is_partial event) && has_all_if (event_in event).columns.before && has_all_if (event_in event).columns.after
