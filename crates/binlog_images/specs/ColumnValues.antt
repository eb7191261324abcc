-- Columns of images as contracts see them.
use Rattle.std.specs.Prelude.{Result, Ok, Err}
use Rattle.binlog_values.specs.Contents.{of_bytes}
use Rattle.binlog_values.specs.Values.{content_of, meaning_of}
use Rattle.binlog_values.specs.declared.fault.ValueFault.{ValueFault}
use Rattle.binlog_images.specs.Cells.{Cell, absent, null, value, diff_list}
use Rattle.binlog_images.specs.declared.column_value.ColumnValue.{ColumnValue}
use Rattle.binlog_images.specs.declared.column_value.ColumnValue.TheVariants.{Absent, Null, Value, Diffs}

-- The column as it is in an image.
abbrev pub cell_of : ColumnValue → Cell
cell_of Absent = absent
cell_of Null = null
cell_of (Value v) = value (meaning_of v) (content_of v)
cell_of (Diffs s) = diff_list (of_bytes s.now)

-- An answer, with its column.
abbrev pub answer_cell : Result ColumnValue ValueFault → Result Cell ValueFault
answer_cell (Ok column) = Ok (cell_of column)
answer_cell (Err fault) = Err fault
