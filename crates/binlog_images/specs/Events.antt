-- The rows of an event: which images its rows have, and why they can't be read.
use Rattle.std.specs.Prelude.{◌≡◌, ℕ, ◌==◌, List, length, Option, None, Some, option_map, if◌then◌else◌, IfSome}
use Rattle.binlog_columns.specs.Metadata.{Typed}
use Rattle.binlog_columns.specs.Refusals.{refusal, columns_in}
use Rattle.binlog_columns.specs.declared.column_error.ColumnError.{ColumnError}
use Rattle.binlog_rows.specs.Columns.{Bitmap}
use Rattle.binlog_rows.specs.declared.rows_event.RowsEvent.{RowsEvent}
use Rattle.binlog_rows.specs.declared.table_map_event.TableMapEvent.{TableMapEvent}
use Rattle.binlog_images.specs.Cells.{RowShape}
use Rattle.binlog_images.specs.declared.rows_error.RowsEventError.{RowsEventError}
use Rattle.binlog_images.specs.declared.rows_error.RowsEventError.TheVariants.{NoTableMap, Columns, ColumnCount}

-- The columns of a table map.
abbrev pub mapped_columns : TableMapEvent → List Typed
mapped_columns table_map = columns_in table_map.columns.types table_map.columns.metadata

-- A bitmap, if there is one, has a bit for each of these columns.
abbrev pub HasBitEach : List Typed → Option Bitmap → Type 0
HasBitEach columns present = IfSome present (λ bits. bits.0 ≡ length columns)

-- The images of the event's rows, for a table with these columns.
abbrev pub event_shape : List Typed → RowsEvent → RowShape
event_shape columns event = (option_map (λ bits. (columns, bits)) event.columns.before, option_map (λ bits. (columns, bits)) event.columns.after)

-- The table has another number of columns than the event.
abbrev pub count_error : ℕ → ℕ → Option RowsEventError
count_error event table = if event == table then None else Some (ColumnCount event table)

-- The columns of the table map are refused, or aren't as many as the event's.
abbrev pub columns_error : ℕ → ℕ → Option ColumnError → Option RowsEventError
columns_error event table (Some error) = Some (Columns error)
columns_error event table None = count_error event table

-- Why the event's rows can't be read with this table map.
abbrev pub event_error : TableMapEvent → RowsEvent → Option RowsEventError
event_error table_map event =
    if event.head.table_id == table_map.table.id
    then columns_error event.columns.count (length table_map.columns.types) (refusal 0 table_map.columns.types table_map.columns.metadata)
    else Some (NoTableMap event.head.table_id)
