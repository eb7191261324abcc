-- The names of the columns of a table, each printed in a line of its own.
use Rattle.std.specs.Prelude.{◌≡◌, ℕ, ◌<◌, List, [], ◌∷◌, length, slice_index_or, Some}
use Rattle.std.specs.List.{slice_get}
use Rattle.json.specs.Token.{Token, key}
use Rattle.binlog_optional_metadata.specs.declared.column_facts.ColumnFacts.{ColumnFacts}
use Rattle.binlog_optional_metadata.specs.Facts.{facts_of}
use Rattle.binlog_json_values.specs.Rows.{column_name}

-- The line with this index has this name, and nothing else.
pub record IsPrinted (lines : List (List Token)) (index : ℕ) (name : List ℕ) : Type 0 where
  pub within : index < length lines
  pub is : (none : List Token) → slice_index_or lines index none ≡ key name ∷ []

-- The lines before this index stay the same.
abbrev pub KeepsBefore : ℕ → List (List Token) → List (List Token) → Type 0
KeepsBefore index old new = (k : ℕ) (none : List Token) → k < index → slice_index_or new k none ≡ slice_index_or old k none

-- The names of the columns before this index.
abbrev pub ArePrintedBefore : ℕ → List ColumnFacts → List (List Token) → Type 0
ArePrintedBefore index columns lines = (k : ℕ) (facts : ColumnFacts) → k < index → slice_get columns k ≡ Some facts → IsPrinted lines k (column_name (facts_of facts) k)

-- The names of all columns.
abbrev pub ArePrinted : List ColumnFacts → List (List Token) → Type 0
ArePrinted columns lines = (k : ℕ) (facts : ColumnFacts) → slice_get columns k ≡ Some facts → IsPrinted lines k (column_name (facts_of facts) k)
