-- Why a row is refused.
use Rattle.binlog_wire.specs.declared.error.Error.{Error}
use Rattle.binlog_wire.specs.declared.error.Error.TheVariants as errors
use Rattle.binlog_wire.specs.Reading.{Refusal, ends, invalid, other_type}
use Rattle.binlog_images.specs.declared.rows_error.RowsErrorKind.{RowsErrorKind}
use Rattle.binlog_images.specs.declared.rows_error.RowsErrorKind.TheVariants.{Truncated, BadValue}

-- The kind of a refusal of a value or of a null bitmap.
abbrev pub kind_as : Refusal → RowsErrorKind
kind_as ends = Truncated
kind_as (invalid why) = BadValue
kind_as (other_type number) = Truncated

-- The kind of an error of reading one.
abbrev pub kind_of : Error → RowsErrorKind
kind_of (errors.InvalidData why) = BadValue
kind_of _ = Truncated
