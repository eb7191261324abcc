-- Columns as contracts see them.
use Rattle.std.specs.Prelude.{Result, Ok, Err}
use Rattle.binlog_wire.specs.declared.error.Error.{Error}
use Rattle.binlog_columns.specs.Metadata.{Typed}
use Rattle.binlog_columns.specs.declared.column.Column.{Column}

-- The type and the metadata of a column.
abbrev pub typed_of : Column → Typed
typed_of column = (column.column_type, column.metadata)

-- The result of a call, with the type and the metadata of its column.
abbrev pub answer_typed : Result Column Error → Result Typed Error
answer_typed (Ok column) = Ok (typed_of column)
answer_typed (Err e) = Err e
