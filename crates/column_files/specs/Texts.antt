-- The tables of the text of a file of columns, and what is wrong in a text.
use Rattle.std.specs.Prelude.{◌≡◌, ℕ, List, length}
use Rattle.column_files.specs.Files.{IsFile, IsInvalid}
use Rattle.column_files.specs.Places.{place_of}
use Rattle.column_files.specs.Tables.{AreInPlace, AreTables, IsMisplaced}
use Rattle.column_files.specs.declared.error.ColumnFileError.{ColumnFileError}
use Rattle.column_files.specs.declared.error.ColumnFileError.TheVariants.{Invalid, Memory}
use Rattle.column_files.specs.declared.files.ColumnLine.{ColumnLine}
use Rattle.column_files.specs.declared.place.Place.{Place}
use Rattle.column_files.specs.declared.tables.DeclaredTables.{DeclaredTables}
use Rattle.column_files.specs.declared.tables.DeclaredTablesError.{DeclaredTablesError}
use Rattle.column_files.specs.declared.tables.DeclaredTablesError.TheVariants as tables
use Rattle.column_files.specs.Positions.{position_at}
use Rattle.column_files.specs.declared.tables_error.ReadTablesError.{ReadTablesError}
use Rattle.column_files.specs.declared.tables_error.ReadTablesError.TheVariants as errors
use Rattle.column_files.specs.declared.tables_error.TextFault.{TextFault}
use Rattle.column_files.specs.declared.tables_error.TextFault.TheVariants as faults

-- The text is that of a file of columns, with these tables: it has lines, whose positions count the columns of each table.
pub record IsColumnFile (text : List ℕ) (tables : DeclaredTables) : Type 0 where
  pub lines : List ColumnLine
  pub read : IsFile text lines
  pub placed : AreInPlace lines (length lines)
  pub are : AreTables lines tables

-- What is wrong first in a text, and where: it isn't that of a file; or it is, and this is the first line whose position isn't the next
-- one of its table.
abbrev pub IsFault : List ℕ → TextFault → Place → Type 0
IsFault text (faults.Text fault) place = (index : ℕ) × IsInvalid text (Invalid fault index) × (place ≡ place_of text index)
IsFault text faults.Order place = (lines : List ColumnLine) × (index : ℕ) × IsFile text lines × IsMisplaced lines index × (place ≡ place_of text (position_at text index))

-- Why a text isn't read: what is wrong in it, or nothing is said of it where memory ran out.
abbrev pub IsReadError : List ℕ → ReadTablesError → Type 0
IsReadError text (errors.Fault fault place) = IsFault text fault place
IsReadError text errors.Memory = Unit {0}

-- Something is wrong in a text.
abbrev pub HasFault : List ℕ → Type 0
HasFault text = (fault : TextFault) × (place : Place) × IsFault text fault place

-- The error with its place.
abbrev pub read_error_of : List ℕ → ColumnFileError → ReadTablesError
read_error_of text (Invalid fault index) = errors.Fault (faults.Text fault) (place_of text index)
read_error_of text Memory = errors.Memory

abbrev pub tables_error_of : List ℕ → DeclaredTablesError → ReadTablesError
tables_error_of text (tables.Position index) = errors.Fault faults.Order (place_of text (position_at text index))
tables_error_of text tables.Memory = errors.Memory
