-- The lines of a file of columns.
use Rattle.std.specs.Prelude.{◌≡◌, ◌⊎◌, ℕ, ◌<◌, ◌==◌, if◌then◌else◌, Option, Some, None, List, [], ◌∷◌, ◌++◌, length, codes, Result, Ok, Err}
use Rattle.column_files.specs.declared.error.Fault.{Fault}
use Rattle.column_files.specs.declared.error.ColumnFileFault.TheVariants.{Header}
use Rattle.column_files.specs.declared.error.ColumnFileError.{ColumnFileError}
use Rattle.column_files.specs.declared.error.ColumnFileError.TheVariants.{Invalid}
use Rattle.column_files.specs.declared.files.ColumnLine.{ColumnLine}
use Rattle.column_files.specs.Faults.{error_at}
use Rattle.column_files.specs.Reading.{◌>>=◌, field_at, last_field_at, number_at}

-- The first line, without its end.
unfoldable pub header : List ℕ
header = codes "TABLE_SCHEMA\tTABLE_NAME\tORDINAL_POSITION\tCOLUMN_NAME\tCOLUMN_TYPE\tCHARACTER_SET_NAME"

-- What is behind a line feed.
abbrev pub behind_line_feed : List ℕ → Option (List ℕ)
behind_line_feed [] = None
behind_line_feed (b ∷ s) = if b == 10 then Some s else None

-- What is behind the end of a line: a line feed, or a carriage return and a line feed.
abbrev pub behind_end : List ℕ → Option (List ℕ)
behind_end [] = None
behind_end (b ∷ s) = if b == 13 then behind_line_feed s else behind_line_feed (b ∷ s)

-- The text is the first line and this.
pub record IsBody (text body : List ℕ) : Type 0 where
  pub rest : List ℕ
  pub front : text ≡ header ++ rest
  pub ended : behind_end rest ≡ Some body

-- The line at the start: five fields and a number behind the second, each with a tab behind it, but the last with the line's end.
unfoldable pub line_at : List ℕ → Result (ColumnLine × List ℕ) Fault
line_at s =
    field_at 9 s >>= λ schema. field_at 9 schema.1 >>= λ table. number_at table.1 >>= λ position.
    field_at 9 position.1 >>= λ name. field_at 9 name.1 >>= λ type. last_field_at type.1 >>= λ set.
    Ok (record { schema = schema.0; table = table.0; position = position.0; name = name.0; column_type = type.0; character_set = set.0 }, set.1)

-- The text consists of these lines, and then of a rest.
abbrev pub AreLines : List ℕ → List ColumnLine → List ℕ → Type 0
AreLines text [] rest = text ≡ rest
AreLines text (l ∷ ls) rest = (mid : List ℕ) × (line_at text ≡ Ok (l, mid)) × AreLines mid ls rest

-- The text is a file with these lines.
abbrev pub IsFile : List ℕ → List ColumnLine → Type 0
IsFile text lines = (body : List ℕ) × IsBody text body × AreLines body lines []

-- The error is that of the fault of a reading, in a text of this length.
abbrev pub IsFaultAt : {A : Type 0} → ℕ → Result A Fault → ColumnFileError → Type 0
IsFaultAt len reading e = (f : Fault) × (reading ≡ Err f) × (e ≡ error_at len f)

-- After these lines, of a text that goes on, no line can be read.
pub record IsFaultAfter (text : List ℕ) (f : Fault) (ls : List ColumnLine) (rest : List ℕ) : Type 0 where
  pub before : AreLines text ls rest
  pub some : 0 < length rest
  pub fault : line_at rest ≡ Err f

-- The error is that of a fault after some lines, in a text of this length.
abbrev pub IsInvalidAfter : ℕ → List ℕ → ColumnFileError → Type 0
IsInvalidAfter len text e = (f : Fault) × (ls : List ColumnLine) × (rest : List ℕ) × IsFaultAfter text f ls rest × (e ≡ error_at len f)

-- The text doesn't begin with the first line.
abbrev pub IsHeaderless : List ℕ → ColumnFileError → Type 0
IsHeaderless text e = ((body : List ℕ) → ¬ (IsBody text body)) × (e ≡ Invalid Header 0)

-- The text isn't a file, and the error is that of its first fault.
abbrev pub IsInvalid : List ℕ → ColumnFileError → Type 0
IsInvalid text e = IsHeaderless text e ⊎ ((body : List ℕ) × IsBody text body × IsInvalidAfter (length text) body e)
