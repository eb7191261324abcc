-- Why a column is refused.
use Rattle.binlog_wire.specs.declared.error.Error.{Error}
use Rattle.binlog_wire.specs.declared.error.Error.TheVariants as errors
use Rattle.binlog_wire.specs.Reading.{Refusal, ends, invalid, other_type}
use Rattle.binlog_columns.specs.declared.column_error.ColumnErrorKind.{ColumnErrorKind}
use Rattle.binlog_columns.specs.declared.column_error.ColumnErrorKind.TheVariants.{BadType, Truncated, BadMetadata}

-- The kind of a refusal of a column's metadata.
abbrev pub kind_as : Refusal → ColumnErrorKind
kind_as ends = Truncated
kind_as (invalid why) = BadMetadata
kind_as (other_type number) = BadType

-- The kind of an error of reading a column.
abbrev pub kind_of : Error → ColumnErrorKind
kind_of (errors.InvalidData why) = BadMetadata
kind_of (errors.WrongEventType number) = BadType
kind_of _ = Truncated
