-- What the rows of an event are.
use Rattle.std.specs.Prelude.{◌≡◌, Bool, true, false, List, length, None, Some, Result, Ok, Err}
use Rattle.binlog_columns.specs.Metadata.{Typed}
use Rattle.binlog_rows.specs.declared.rows_event.RowsEvent.{RowsEvent}
use Rattle.binlog_rows.specs.declared.rows_event_data.RowsEventData.{RowsEventData}
use Rattle.binlog_rows.specs.declared.rows_event_data.RowsEventData.TheVariants.{PartialUpdateRowsEvent}
use Rattle.binlog_rows.specs.declared.table_map_event.TableMapEvent.{TableMapEvent}
use Rattle.binlog_images.specs.Events.{mapped_columns, event_shape, count_error, event_error}
use Rattle.binlog_images.specs.Cells.{shape_as}
use Rattle.binlog_images.specs.RowsLeft.{row_shape}
use Rattle.binlog_images.specs.declared.rows.Rows.{Rows}
use Rattle.binlog_images.specs.declared.rows_error.RowsEventError.{RowsEventError}

-- The event holds partial updates.
abbrev pub is_partial : RowsEventData → Bool
is_partial (PartialUpdateRowsEvent event) = true
is_partial _ = false

-- All rows of the event are left: rows with the event's images, of a table with these columns.
pub record AreAllRows (is_partial : Bool) (columns : List Typed) (event : RowsEvent) (rows : Rows) : Type 0 where
  pub shape : row_shape rows ≡ shape_as is_partial (event_shape columns event)
  pub bytes : rows.rest.now ≡ event.rows
  pub first : rows.row ≡ 0

-- The same, of the columns of the table map.
abbrev pub AreRowsOf : Bool → TableMapEvent → RowsEvent → Rows → Type 0
AreRowsOf is_partial table_map = AreAllRows is_partial (mapped_columns table_map)

-- The answer is the rows of the event, which holds partial updates or doesn't, or why they can't be read.
abbrev pub GivesRows : Bool → TableMapEvent → RowsEvent → Result Rows RowsEventError → Type 0
GivesRows is_partial table_map event (Ok rows) = (event_error table_map event ≡ None) × AreRowsOf is_partial table_map event rows
GivesRows is_partial table_map event (Err error) = event_error table_map event ≡ Some error

-- The same for a table with these columns.
abbrev pub GivesRowsOf : Bool → List Typed → RowsEvent → Result Rows RowsEventError → Type 0
GivesRowsOf is_partial columns event (Ok rows) = (count_error event.columns.count (length columns) ≡ None) × AreAllRows is_partial columns event rows
GivesRowsOf is_partial columns event (Err error) = count_error event.columns.count (length columns) ≡ Some error
