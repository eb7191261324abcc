-- The fields that are left, and what one call of `next` gives.
use Rattle.std.specs.Prelude.{ℕ, List, [], ◌∷◌, Some, None, Result, Ok, Err}
use Rattle.std.specs.Borrow.{Bor}
use Rattle.binlog_wire.specs.Reading.{Read}
use Rattle.binlog_optional_metadata.specs.Fields.{Content, content, field}
use Rattle.binlog_optional_metadata.specs.FieldValues.{content_of}
use Rattle.binlog_optional_metadata.specs.Kinds.{kind_as}
use Rattle.binlog_optional_metadata.specs.declared.class_counts.ClassCounts.{ClassCounts}
use Rattle.binlog_optional_metadata.specs.declared.field.OptionalMetadataField.{OptionalMetadataField}
use Rattle.binlog_optional_metadata.specs.declared.metadata_error.OptionalMetadataError.{OptionalMetadataError}
use Rattle.binlog_optional_metadata.specs.declared.metadata_error.OptionalMetadataErrorKind.TheVariants.{LeftOver}

-- The content of a field of this type, which has to be all of its bytes.
abbrev pub whole_content : ℕ → Read Content → Result Content OptionalMetadataError
whole_content number (Ok (content, [])) = Ok content
whole_content number (Ok (content, byte ∷ rest)) = Err (record { kind = LeftOver; field_type = Some number })
whole_content number (Err d) = Err (record { kind = kind_as d; field_type = Some number })

-- The content of a field, or why it is refused.
abbrev pub FieldContent : Type 0
FieldContent = Result Content OptionalMetadataError

-- The content of a field that was taken, or why it is refused, and the bytes after the field. Where the type or the length of
-- the field can't be read, it isn't known where it ends, and no bytes are left.
abbrev pub field_taken : ClassCounts → Read (ℕ × List ℕ) → FieldContent × List ℕ
field_taken counts (Ok x) = (whole_content x.0.0 ((content counts x.0.0).reads x.0.1), x.1)
field_taken counts (Err d) = (Err (record { kind = kind_as d; field_type = None }), [])

-- The first field of the bytes, and the bytes after it.
abbrev pub first_field : ClassCounts → List ℕ → FieldContent × List ℕ
first_field counts s = field_taken counts (field.reads s)

-- An answer, with the content of its field.
abbrev pub answer_field_content : Result OptionalMetadataField OptionalMetadataError → FieldContent
answer_field_content (Ok field) = Ok (content_of field)
answer_field_content (Err e) = Err e

-- The same, with the bytes after the field.
abbrev pub answer_first : Result OptionalMetadataField OptionalMetadataError × Bor (List ℕ) → FieldContent × List ℕ
answer_first x = (answer_field_content x.0, x.1.now)
