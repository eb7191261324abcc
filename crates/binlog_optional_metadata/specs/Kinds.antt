-- Why a field is refused.
use Rattle.binlog_wire.specs.declared.error.Error.{Error}
use Rattle.binlog_wire.specs.declared.error.Error.TheVariants as errors
use Rattle.binlog_wire.specs.Reading.{Refusal, ends, invalid, other_type}
use Rattle.binlog_optional_metadata.specs.declared.metadata_error.OptionalMetadataErrorKind.{OptionalMetadataErrorKind}
use Rattle.binlog_optional_metadata.specs.declared.metadata_error.OptionalMetadataErrorKind.TheVariants.{Truncated, BadValue}

-- The kind of a refusal.
abbrev pub kind_as : Refusal → OptionalMetadataErrorKind
kind_as ends = Truncated
kind_as (invalid why) = BadValue
kind_as (other_type number) = Truncated

-- The kind of an error of reading a field.
abbrev pub kind_of : Error → OptionalMetadataErrorKind
kind_of (errors.InvalidData why) = BadValue
kind_of _ = Truncated
