-- What the optional metadata of a table map states of its columns, by their facts.
use Rattle.std.specs.Prelude.{◌≡◌, ℕ, ◌<◌, Bool, List, Option, Some, length, slice_get}
use Rattle.binlog_columns.specs.Metadata.{Typed}
use Rattle.binlog_optional_metadata.specs.AllFields.{AreFields, contents_of, first_refusal}
use Rattle.binlog_optional_metadata.specs.Counts.{counts_of}
use Rattle.binlog_optional_metadata.specs.Facts.{Facts}
use Rattle.binlog_optional_metadata.specs.FieldsLeft.{FieldContent}
use Rattle.binlog_optional_metadata.specs.Stated.{stated_in, facts_at}
use Rattle.binlog_optional_metadata.specs.declared.metadata_error.OptionalMetadataError.{OptionalMetadataError}

-- These are the facts that the fields of the bytes state of each column, and why the first field is refused that is. The bytes have
-- exactly one list of fields (`fields_are_given` of `binlog_optional_metadata`).
abbrev pub AreStated : (is_maria_log : Bool) (columns : List Typed) (s : List ℕ) → List Facts → Option OptionalMetadataError → Type 0
AreStated is_maria_log columns s facts refusal =
    (fields : List FieldContent) → AreFields (counts_of is_maria_log columns) s fields
    → (refusal ≡ first_refusal fields) × (length facts ≡ length columns)
    × ((index : ℕ) → index < length columns → slice_get facts index ≡ Some (facts_at is_maria_log (stated_in (contents_of fields)) columns index))
