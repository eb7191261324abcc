-- The columns of a table map: their types, one byte each, and the metadata of all of them, from left to right.
use Rattle.std.specs.Prelude.{ℕ, suc, List, [], ◌∷◌, Option, Some, None, Ok, Err}
use Rattle.binlog_wire.specs.Reading.{Read}
use Rattle.binlog_columns.specs.Metadata.{Typed, column}
use Rattle.binlog_columns.specs.Kinds.{kind_as}
use Rattle.binlog_columns.specs.declared.column_error.ColumnError.{ColumnError}
use Rattle.binlog_columns.specs.declared.column_error.ColumnErrorKind.TheVariants.{LeftOver}

-- The refusal of this column, or else of those after it.
abbrev pub refused_or : ℕ → Read Typed → (List ℕ → Option ColumnError) → Option ColumnError
refused_or index (Ok x) next = next x.1
refused_or index (Err d) next = Some (record { kind = kind_as d; column = index })

-- The first refusal from left to right: that of the first column that is refused, or that of bytes that are left after
-- the last one. The index of the first column is given.
abbrev pub refusal : ℕ → List ℕ → List ℕ → Option ColumnError
refusal index [] [] = None
refusal index [] (byte ∷ metadata) = Some (record { kind = LeftOver; column = index })
refusal index (number ∷ types) metadata = refused_or index ((column number).reads metadata) (refusal (suc index) types)

-- This column and those after it, up to one that is refused.
abbrev pub given_and : Read Typed → (List ℕ → List Typed) → List Typed
given_and (Ok x) next = x.0 ∷ next x.1
given_and (Err d) next = []

-- The columns of these types with this metadata.
abbrev pub columns_in : List ℕ → List ℕ → List Typed
columns_in [] metadata = []
columns_in (number ∷ types) metadata = given_and ((column number).reads metadata) (columns_in types)
