use Rattle.std.proofs.Common.{◌≡◌, Result, sym, subst}
use Rattle.binlog_optional_metadata.specs.FieldsLeft.{answer_field_content}
use Rattle.binlog_optional_metadata.specs.declared.field.OptionalMetadataField.{OptionalMetadataField}
use Rattle.binlog_optional_metadata.specs.declared.metadata_error.OptionalMetadataError.{OptionalMetadataError}
use Rattle.binlog_optional_metadata.specs.StatedFields.{stated_of, with_content}
use Rattle.binlog_optional_metadata.proofs.stated_fields.StatedFields.take_item.Goals as goal

pub returns-in-Ok-clause-fields : goal.returns-in-Ok-clause-fields
returns-in-Ok-clause-fields c =
    subst (λ (item : Result OptionalMetadataField OptionalMetadataError). stated_of c.take.new.self ≡ with_content (stated_of c.args.self.now) (answer_field_content item)) (sym c.in-Ok.is)
    c.take.ensures.field

pub returns-in-Err-clause-fields : goal.returns-in-Err-clause-fields
returns-in-Err-clause-fields c =
    subst (λ (item : Result OptionalMetadataField OptionalMetadataError). stated_of c.refuse.new.self ≡ with_content (stated_of c.args.self.now) (answer_field_content item)) (sym c.in-Err.is)
    c.refuse.ensures.fields
