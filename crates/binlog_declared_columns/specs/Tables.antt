-- The columns that files declare of a table.
use Rattle.std.specs.Prelude.{◌≡◌, ℕ, Bool, List, [], ◌∷◌, Option, None}
use Rattle.binlog_columns.specs.Metadata.{Typed}
use Rattle.binlog_optional_metadata.specs.AllFields.{AreFields}
use Rattle.binlog_optional_metadata.specs.Counts.{counts_of}
use Rattle.binlog_optional_metadata.specs.FieldsLeft.{FieldContent}
use Rattle.binlog_optional_metadata.specs.Stated.{StatesFacts}
use Rattle.binlog_optional_metadata.specs.declared.column_facts.ColumnFacts.{ColumnFacts}
use Rattle.binlog_optional_metadata.specs.declared.metadata_error.OptionalMetadataError.{OptionalMetadataError}
use Rattle.column_files.specs.Tables.{Described, columns_named}
use Rattle.column_files.specs.declared.tables.DeclaredTables.{DeclaredTables}
use Rattle.binlog_declared_columns.specs.Facts.{AreOfBoth}
use Rattle.binlog_declared_columns.specs.Signs.{states_signs}

-- The first columns that aren't none.
abbrev pub first_of : List Described → List Described → List Described
first_of [] others = others
first_of (column ∷ columns) others = column ∷ columns

-- The columns of the table with these names, in the first file that has it.
abbrev pub columns_in : List DeclaredTables → (schema table : List ℕ) → List Described
columns_in [] schema table = []
columns_in (file ∷ files) schema table = first_of (columns_in files schema table) (columns_named file schema table)

-- What is known of the columns of a table, of which the log states `stated`, and which column contradicts the file.
abbrev pub AreKnown : (is_maria_log : Bool) (columns : List Typed) (metadata : List ℕ) (declared : List Described) (stated facts : List ColumnFacts) (contradiction : Option ℕ) → Type 0
AreKnown is_maria_log columns metadata [] stated facts contradiction = (facts ≡ stated) × (contradiction ≡ None)
AreKnown is_maria_log columns metadata (first ∷ declared) stated facts contradiction =
    (fields : List FieldContent) × AreFields (counts_of is_maria_log columns) metadata fields × AreOfBoth is_maria_log (states_signs fields) columns (first ∷ declared) stated facts contradiction

-- These are the facts of the columns of the table with these names: what its table map states, which has these columns and this optional
-- metadata, and what files declare besides; why the first field of the metadata is refused that is; and which column contradicts the file.
pub record StatesBoth (files : List DeclaredTables) (schema table : List ℕ) (is_maria_log : Bool) (columns : List Typed) (metadata : List ℕ)
    (facts : List ColumnFacts) (refusal : Option OptionalMetadataError) (contradiction : Option ℕ) : Type 0 where
  pub stated : List ColumnFacts
  pub are_stated : StatesFacts is_maria_log columns metadata stated refusal
  pub known : AreKnown is_maria_log columns metadata (columns_in files schema table) stated facts contradiction
