-- What is wrong in a text, and where.
use Rattle.std.specs.Prelude.{ℕ, ◌-◌, List, length}
use Rattle.column_files.specs.declared.error.Fault.{Fault}
use Rattle.column_files.specs.declared.error.ColumnFileFault.{ColumnFileFault}
use Rattle.column_files.specs.declared.error.ColumnFileError.{ColumnFileError}
use Rattle.column_files.specs.declared.error.ColumnFileError.TheVariants.{Invalid}

-- A fault at the start of the rest of a text.
abbrev pub fault : ColumnFileFault → List ℕ → Fault
fault kind rest = record { kind = kind; left = length rest }

-- The error for a fault in a text of this length.
abbrev pub error_at : ℕ → Fault → ColumnFileError
error_at len f = Invalid f.kind (len - f.left)
