-- Rows of tables as bytes that tell each one from all others.
use Rattle.std.specs.Prelude.{ℕ, ◌==◌, List, [], ◌∷◌, ◌++◌, if◌then◌else◌}
use Rattle.binlog_images.specs.StoredColumns.{Stored, absent, null, value}
use Rattle.change_statistics.specs.Facts.{Name}

-- A row of a table: for each column, in order, that it isn't there, that it is NULL, or the bytes of its value.
abbrev pub Values : Type 0
Values = List Stored

-- A byte of a text: a zero has a one behind it.
abbrev pub byte_code : ℕ → List ℕ
byte_code b = if b == 0 then 0 ∷ 1 ∷ [] else b ∷ []

-- A text that ends with two zeros.
abbrev pub escaped : List ℕ → List ℕ
escaped [] = 0 ∷ 0 ∷ []
escaped (b ∷ s) = byte_code b ++ escaped s

-- A column.
abbrev pub column_code : Stored → List ℕ
column_code absent = 0 ∷ []
column_code null = 1 ∷ []
column_code (value s) = 2 ∷ escaped s

-- A row.
abbrev pub row_code : Values → List ℕ
row_code [] = []
row_code (column ∷ columns) = column_code column ++ row_code columns

-- The names of a table.
abbrev pub name_code : Name → List ℕ
name_code name = escaped name.database ++ escaped name.table

-- A row of the table with these names.
abbrev pub key_code : Name → Values → List ℕ
key_code name row = name_code name ++ row_code row
