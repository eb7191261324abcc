use Rattle.std.proofs.Common.{sym, refl, arith}
use Rattle.binlog_columns.specs.ColumnTypeLaws.{unknown_between}
use Rattle.binlog_optional_metadata.specs.FieldTypes.{field_number, field_types}
use Rattle.binlog_optional_metadata.proofs.field_type.OptionalMetadataFieldTypeTryFromU8.try_from.Goals as goal

pub returns-in-14-to-255 : goal.returns-in-14-to-255
returns-in-14-to-255 c = sym (unknown_between field_number field_types (λ n. record { 0 = n }) 14 255 c.args.number refl (omega arith) (omega arith))
