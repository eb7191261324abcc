-- Rows as tokens.
use Rattle.std.specs.Prelude.{ℕ, ◌+◌, List, [], ◌∷◌, ◌++◌, codes, decimal, drop, flat_map, Option, None, Some, unwrap_or, Result, Ok, Err}
use Rattle.json.specs.Token.{Token, begin_object, end_object, begin_array, end_array, key, string, null}
use Rattle.json_line.specs.Tokens.{number_value, member, object}
use Rattle.binlog_values.specs.Contents.{bytes_in}
use Rattle.binlog_images.specs.Cells.{Cell, absent, value, diff_list, RowCells}
use Rattle.binlog_images.specs.Cells as cells
use Rattle.binlog_values.specs.Values as meanings
use Rattle.binlog_images.specs.declared.rows_error.ImageKind.{ImageKind}
use Rattle.binlog_images.specs.declared.rows_error.ImageKind.TheVariants.{Before, After}
use Rattle.binlog_images.specs.declared.rows_error.RowsError.{RowsError}
use Rattle.binlog_images.specs.declared.rows_error.RowsErrorKind.{RowsErrorKind}
use Rattle.binlog_images.specs.declared.rows_error.RowsErrorKind.TheVariants.{Truncated, BadValue, LeftOver}
use Rattle.binlog_optional_metadata.specs.declared.column_facts.ColumnFacts.{ColumnFacts}
use Rattle.binlog_optional_metadata.specs.Facts.{Facts, facts_of}
use Rattle.binlog_json_values.specs.Parts.{Part, exactly, exact}
use Rattle.binlog_json_values.specs.Documents.{diff_list_parts}
use Rattle.binlog_json_values.specs.Values.{value_parts}

-- The name of the column with this index: the stated one, else `@` and the number from 1.
abbrev pub column_name : Facts → ℕ → List ℕ
column_name facts index = unwrap_or facts.name (64 ∷ decimal (index + 1))

-- The document of a column: its bytes, if it has a whole value of type JSON.
abbrev pub document_in : Cell → Option (List ℕ)
document_in (value meanings.json content) = Some (bytes_in content)
document_in cell = None

-- That of the first of these columns.
abbrev pub first_document : List Cell → Option (List ℕ)
first_document [] = None
first_document (cell ∷ cells) = document_in cell

-- The member of a column, whose document in the image before is given; none for one that is absent.
abbrev pub cell_parts : Facts → ℕ → Option (List ℕ) → Cell → List Part
cell_parts facts index before absent = []
cell_parts facts index before cells.null = exactly (key (column_name facts index)) ∷ exactly null ∷ []
cell_parts facts index before (value meaning content) = exactly (key (column_name facts index)) ∷ value_parts facts meaning content
cell_parts facts index before (diff_list content) = exactly (key (column_name facts index)) ∷ diff_list_parts before (bytes_in content)

-- The member of the first of these columns.
abbrev pub first_parts : Facts → ℕ → Option (List ℕ) → List Cell → List Part
first_parts facts index before [] = []
first_parts facts index before (cell ∷ others) = cell_parts facts index before cell

-- The members of columns, from this index on, with those of the image before.
abbrev pub members_from : ℕ → List ColumnFacts → List Cell → List Cell → List Part
members_from index [] before cells = []
members_from index (facts ∷ others) before cells =
    first_parts (facts_of facts) index (first_document before) cells ++ members_from (index + 1) others (drop 1 before) (drop 1 cells)

-- An image of a row with these columns before: an object with a member for each column that is present.
unfoldable pub image_parts : List ColumnFacts → List Cell → List Cell → List Part
image_parts columns before cells = exactly begin_object ∷ [] ++ members_from 0 columns before cells ++ exactly end_object ∷ []

-- The member of an image that a row has.
abbrev pub image_member : List ℕ → List ColumnFacts → List Cell → Option (List Cell) → List Part
image_member name columns before None = []
image_member name columns before (Some cells) = exactly (key name) ∷ [] ++ image_parts columns before cells

-- The columns of the image before; none if the row has none.
abbrev pub before_or_none : Option (List Cell) → List Cell
before_or_none image = unwrap_or image []

-- A row: an object with its images.
unfoldable pub row_parts : List ColumnFacts → RowCells → List Part
row_parts columns row =
    exactly begin_object ∷ [] ++ image_member (codes "before") columns (before_or_none row.0) row.0 ++ image_member (codes "after") columns (before_or_none row.0) row.1
    ++ exactly end_object ∷ []

-- What is wrong with a row, by its name.
abbrev pub kind_name : RowsErrorKind → List ℕ
kind_name Truncated = codes "Truncated"
kind_name BadValue = codes "BadValue"
kind_name LeftOver = codes "LeftOver"

abbrev pub image_name : ImageKind → List ℕ
image_name Before = codes "before"
image_name After = codes "after"

-- The image and the column of a fault, where it is in one.
abbrev pub fault_image : Option ImageKind → List Token
fault_image None = []
fault_image (Some kind) = member (codes "image") (string (image_name kind) ∷ [])

abbrev pub fault_column : Option ℕ → List Token
fault_column None = []
fault_column (Some column) = member (codes "column") (number_value column)

-- A row that is refused: an object that says why, and where.
abbrev pub refusal_tokens : RowsError → List Token
refusal_tokens error =
    object (member (codes "error") (string (kind_name error.kind) ∷ []) ++ member (codes "row") (number_value error.row) ++ fault_image error.image ++ fault_column error.column)

-- An item of an iteration over rows.
abbrev pub item_parts : List ColumnFacts → Result RowCells RowsError → List Part
item_parts columns (Ok row) = row_parts columns row
item_parts columns (Err error) = exact (refusal_tokens error)

-- An array of rows.
abbrev pub rows_parts : List ColumnFacts → List (Result RowCells RowsError) → List Part
rows_parts columns items = exactly begin_array ∷ [] ++ flat_map (item_parts columns) items ++ exactly end_array ∷ []
