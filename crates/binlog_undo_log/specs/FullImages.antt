-- Row events whose images have all columns.
use Rattle.std.specs.Prelude.{◌≡◌, true, Option, Some, None}
use Rattle.binlog_rows.specs.Columns.{Bitmap}
use Rattle.binlog_rows.specs.RowsData.{event_in}
use Rattle.binlog_rows.specs.declared.rows_event_data.RowsEventData.{RowsEventData}
use Rattle.binlog_undo.specs.Coverage.{has_all}

-- Each column of the table is in the image, if there is one.
abbrev pub IsFull : Option Bitmap → Type 0
IsFull None = Unit {0}
IsFull (Some bits) = has_all bits ≡ true

pub record HasFullImages (event : RowsEventData) : Type 0 where
  pub before : IsFull (event_in event).columns.before
  pub after : IsFull (event_in event).columns.after
