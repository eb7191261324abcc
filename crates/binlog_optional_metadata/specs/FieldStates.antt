-- The state of an iteration over fields, and what one call of `next` does to it.
use Rattle.std.specs.Prelude.{◌≡◌, ℕ, List, [], Option, Some, None, Result, Ok, Err}
use Rattle.std.specs.Borrow.{Bor}
use Rattle.binlog_wire.specs.declared.error.Error.{Error}
use Rattle.binlog_optional_metadata.specs.FieldsLeft.{first_field, answer_field_content}
use Rattle.binlog_optional_metadata.specs.declared.field.OptionalMetadataField.{OptionalMetadataField}
use Rattle.binlog_optional_metadata.specs.declared.metadata_error.OptionalMetadataError.{OptionalMetadataError}
use Rattle.binlog_optional_metadata.specs.declared.optional_metadata.OptionalMetadata.{OptionalMetadata}

-- An answer, with the type and the bytes of its field.
abbrev pub answer_field : Result (ℕ × Bor (List ℕ)) Error → Result (ℕ × List ℕ) Error
answer_field (Ok x) = Ok (x.0, x.1.now)
answer_field (Err e) = Err e

-- One call gives the first field that is left, or its refusal, and leaves the bytes after it; or None where nothing is left.
abbrev pub GivesField : OptionalMetadata → Option (Result OptionalMetadataField OptionalMetadataError) → OptionalMetadata → Type 0
GivesField old None new = (old.rest.now ≡ []) × (new ≡ old)
GivesField old (Some item) new = (¬ (old.rest.now ≡ [])) × ((answer_field_content item, new.rest.now) ≡ first_field old.counts old.rest.now) × (new.counts ≡ old.counts)
