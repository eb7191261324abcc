-- The files of columns that a command reads.
use Rattle.std.specs.Prelude.{◌≡◌, ◌≢◌, ◌⊎◌, ℕ, List, [], ◌∷◌, Option, IfSome}
use Rattle.binlog_cli.specs.declared.exit_status.Status.{Status}
use Rattle.binlog_cli.specs.declared.exit_status.Status.TheVariants.{Failed, Usage}
use Rattle.column_files.specs.declared.tables.DeclaredTables.{DeclaredTables}
use Rattle.column_files.specs.Texts.{IsColumnFile}
use Rattle.column_files.specs.declared.tables_error.ReadTablesError.{ReadTablesError}
use Rattle.column_files.specs.declared.tables_error.ReadTablesError.TheVariants.{Fault, Memory}

-- The tables are those of the files with these names, in order. `bytes` are those of a file, where they are known.
abbrev pub AreColumnFiles : {N : Type 0} (bytes : N → Option (List ℕ)) (names : List N) (files : List DeclaredTables) → Type 0
AreColumnFiles bytes [] [] = Unit {0}
AreColumnFiles bytes (name ∷ names) (tables ∷ files) = IfSome (bytes name) (λ text. IsColumnFile text tables) × AreColumnFiles bytes names files
AreColumnFiles bytes names files = ⊥

-- The status if files with these names aren't read: one of them can't be, or has a fault; or memory ran out.
abbrev pub IsUnreadColumns : {N : Type 0} (names : List N) → Status → Type 0
IsUnreadColumns names status = (names ≢ []) × ((status ≡ Usage) ⊎ (status ≡ Failed))

-- The status for a text that isn't read.
abbrev pub status_of : ReadTablesError → Status
status_of (Fault fault place) = Usage
status_of Memory = Failed
