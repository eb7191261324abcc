use Rattle.std.proofs.Common.{sym, ap}
use Rattle.binlog_optional_metadata.specs.FieldValues.{content_of}
use Rattle.binlog_optional_metadata.specs.declared.field.OptionalMetadataField.{OptionalMetadataField}
use Rattle.binlog_optional_metadata.specs.StatedFields.{stated_of, with_field}
use Rattle.binlog_optional_metadata.proofs.OtherFields.{other_field}
use Rattle.binlog_optional_metadata.proofs.stated_fields.StatedFields.take.Goals as goal

pub returns-in-Signedness-clause-field : goal.returns-in-Signedness-clause-field
returns-in-Signedness-clause-field c = sym (ap (λ (field : OptionalMetadataField). with_field (stated_of c.args.self.now) (content_of field)) c.in-Signedness.is)

pub returns-in-DefaultCharset-clause-field : goal.returns-in-DefaultCharset-clause-field
returns-in-DefaultCharset-clause-field c = sym (ap (λ (field : OptionalMetadataField). with_field (stated_of c.args.self.now) (content_of field)) c.in-DefaultCharset.is)

pub returns-in-ColumnCharset-clause-field : goal.returns-in-ColumnCharset-clause-field
returns-in-ColumnCharset-clause-field c = sym (ap (λ (field : OptionalMetadataField). with_field (stated_of c.args.self.now) (content_of field)) c.in-ColumnCharset.is)

pub returns-in-ColumnName-clause-field : goal.returns-in-ColumnName-clause-field
returns-in-ColumnName-clause-field c = sym (ap (λ (field : OptionalMetadataField). with_field (stated_of c.args.self.now) (content_of field)) c.in-ColumnName.is)

pub returns-in-EnumStrValue-clause-field : goal.returns-in-EnumStrValue-clause-field
returns-in-EnumStrValue-clause-field c = sym (ap (λ (field : OptionalMetadataField). with_field (stated_of c.args.self.now) (content_of field)) c.in-EnumStrValue.is)

pub returns-in-SetStrValue-clause-field : goal.returns-in-SetStrValue-clause-field
returns-in-SetStrValue-clause-field c = sym (ap (λ (field : OptionalMetadataField). with_field (stated_of c.args.self.now) (content_of field)) c.in-SetStrValue.is)

pub returns-in-EnumAndSetDefaultCharset-clause-field : goal.returns-in-EnumAndSetDefaultCharset-clause-field
returns-in-EnumAndSetDefaultCharset-clause-field c = sym (ap (λ (field : OptionalMetadataField). with_field (stated_of c.args.self.now) (content_of field)) c.in-EnumAndSetDefaultCharset.is)

pub returns-in-EnumAndSetColumnCharset-clause-field : goal.returns-in-EnumAndSetColumnCharset-clause-field
returns-in-EnumAndSetColumnCharset-clause-field c = sym (ap (λ (field : OptionalMetadataField). with_field (stated_of c.args.self.now) (content_of field)) c.in-EnumAndSetColumnCharset.is)

pub returns-in_default-clause-field : goal.returns-in_default-clause-field
returns-in_default-clause-field c =
    other_field (stated_of c.args.self.now) c.args.field c.in_default.not-Signedness c.in_default.not-DefaultCharset c.in_default.not-ColumnCharset c.in_default.not-ColumnName c.in_default.not-EnumStrValue
    c.in_default.not-SetStrValue c.in_default.not-EnumAndSetDefaultCharset c.in_default.not-EnumAndSetColumnCharset
