-- What is shown of a row event with its table map.
use Rattle.std.specs.Prelude.{ℕ, Bool, List, Result}
use Rattle.binlog_images.specs.Cells.{RowCells}
use Rattle.binlog_images.specs.declared.rows_error.RowsError.{RowsError}
use Rattle.column_files.specs.declared.tables.DeclaredTables.{DeclaredTables}
use Rattle.binlog_change_lines.specs.Heads.{place_of}
use Rattle.binlog_change_lines.specs.RowLines.{AllAreRead, AreLinesOfEvent}
use Rattle.binlog_change_lines.specs.declared.change_lines.Shown.{Shown}
use Rattle.binlog_change_lines.specs.declared.change_lines.Shown.TheVariants.{Nothing, Rows, Whole}
use Rattle.binlog_change_lines.specs.declared.row_lines.RowsHead.{RowsHead}

-- The lines of all rows, or not all can be read.
abbrev pub ShowsMapped : (files : List DeclaredTables) (is_maria_log : Bool) → RowsHead → Shown → (text : List ℕ) → Type 0
ShowsMapped files is_maria_log head Nothing text = ⊥
ShowsMapped files is_maria_log head (Rows contradiction) text =
    AreLinesOfEvent files is_maria_log (place_of head.place.now) head.time head.body.now head.table_map.now contradiction text
ShowsMapped files is_maria_log head Whole text = (items : List (Result RowCells RowsError)) → AllAreRead head.body.now head.table_map.now items → ⊥
