-- What is in the place of rows that can't be read at all, and the member for metadata that can't be read.
use Rattle.std.specs.Prelude.{ℕ, List, [], ◌∷◌, ◌++◌, codes, Option, None, Some}
use Rattle.json.specs.Token.{Token, string, null}
use Rattle.json_line.specs.Tokens.{number_value, or_null, member, object, array}
use Rattle.binlog_columns.specs.declared.column_error.ColumnError.{ColumnError}
use Rattle.binlog_columns.specs.declared.column_error.ColumnErrorKind.{ColumnErrorKind}
use Rattle.binlog_columns.specs.declared.column_error.ColumnErrorKind.TheVariants.{BadType, Truncated, BadMetadata, LeftOver}
use Rattle.binlog_images.specs.declared.rows_error.RowsEventError.{RowsEventError}
use Rattle.binlog_images.specs.declared.rows_error.RowsEventError.TheVariants.{NoTableMap, Columns, ColumnCount}
use Rattle.binlog_optional_metadata.specs.declared.metadata_error.OptionalMetadataError.{OptionalMetadataError}
use Rattle.binlog_optional_metadata.specs.declared.metadata_error.OptionalMetadataErrorKind.{OptionalMetadataErrorKind}
use Rattle.binlog_optional_metadata.specs.declared.metadata_error.OptionalMetadataErrorKind.TheVariants as kinds

-- What is wrong with a column, by its name.
abbrev pub kind_name : ColumnErrorKind → List ℕ
kind_name BadType = codes "BadType"
kind_name Truncated = codes "Truncated"
kind_name BadMetadata = codes "BadMetadata"
kind_name LeftOver = codes "LeftOver"

-- The columns of the table map are refused: an array of one object that says why, and where.
abbrev pub columns_refusal : ColumnError → List Token
columns_refusal error = array (object (member (codes "error") (string (kind_name error.kind) ∷ []) ++ member (codes "column") (number_value error.column)))

-- The event has another number of columns than the table map.
abbrev pub count_refusal : ℕ → ℕ → List Token
count_refusal event table =
    array (object (member (codes "error") (string (codes "ColumnCount") ∷ []) ++ member (codes "event") (number_value event) ++ member (codes "table") (number_value table)))

-- What is in the place of the rows that are refused with an error.
abbrev pub refusal_value : RowsEventError → List Token
refusal_value (NoTableMap id) = null ∷ []
refusal_value (Columns error) = columns_refusal error
refusal_value (ColumnCount event table) = count_refusal event table

-- What is wrong with a field of the optional metadata, by its name.
abbrev pub metadata_kind_name : OptionalMetadataErrorKind → List ℕ
metadata_kind_name kinds.Truncated = codes "Truncated"
metadata_kind_name kinds.BadValue = codes "BadValue"
metadata_kind_name kinds.LeftOver = codes "LeftOver"

-- A field of the optional metadata is refused: an object that says why, and the number of the field's type, if that is known.
abbrev pub metadata_refusal : OptionalMetadataError → List Token
metadata_refusal error = object (member (codes "error") (string (metadata_kind_name error.kind) ∷ []) ++ member (codes "field") (or_null number_value error.field_type))

-- The member for the first field that is refused; none where all are read.
abbrev pub metadata_member : Option OptionalMetadataError → List Token
metadata_member None = []
metadata_member (Some error) = member (codes "metadata") (metadata_refusal error)
