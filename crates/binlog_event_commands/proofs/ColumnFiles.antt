-- Files of columns, one after another, and why one isn't read.
use Rattle.std.proofs.Common.{◌≡◌, ◌≢◌, ◌⊎◌, inl, inr, ℕ, ◌+◌, ◌<◌, List, [], ◌∷◌, ◌++◌, length, take, get_or, Option, Some, None, IfSome, sym, subst, arith}
use Rattle.std.proofs.lemmas.List.{take_more}
use Rattle.column_files.specs.declared.tables.DeclaredTables.{DeclaredTables}
use Rattle.column_files.specs.Texts.{HasFault, IsColumnFile, IsReadError}
use Rattle.column_files.specs.declared.tables_error.ReadTablesError.{ReadTablesError}
use Rattle.column_files.specs.declared.tables_error.ReadTablesError.TheVariants.{Fault, Memory}
use Rattle.binlog_cli.specs.declared.exit_status.Status.{Status}
use Rattle.binlog_cli.specs.declared.exit_status.Status.TheVariants.{Failed, Usage}
use Rattle.binlog_event_commands.specs.Columns.{AreColumnFiles, status_of}

module _ {N : Type 0} (bytes : N → Option (List ℕ)) where
  files_more : (names : List N) (files : List DeclaredTables) (name : N) (file : DeclaredTables) → AreColumnFiles bytes names files → IfSome (bytes name) (λ text. IsColumnFile text file)
      → AreColumnFiles bytes (names ++ name ∷ []) (files ++ file ∷ [])
  files_more [] [] name file are is = (is, tt)
  files_more [] (other ∷ files) name file are is = absurd are
  files_more (other ∷ names) [] name file are is = absurd are
  files_more (other ∷ names) (first ∷ files) name file are is = (are.0, files_more names files name file are.1 is)

  -- One more file is read.
  pub files_next : (names : List N) (i : ℕ) (none : N) (files : List DeclaredTables) (file : DeclaredTables) → i < length names → AreColumnFiles bytes (take i names) files
      → IfSome (bytes (get_or names i none)) (λ text. IsColumnFile text file) → AreColumnFiles bytes (take (i + 1) names) (files ++ file ∷ [])
  files_next names i none files file within are is =
      subst (λ (so_far : List N). AreColumnFiles bytes so_far (files ++ file ∷ [])) (sym (take_more names i none within)) (files_more (take i names) files (get_or names i none) file are is)

pub some_name : {N : Type 0} (names : List N) (i : ℕ) → i < length names → names ≢ []
some_name [] i within = absurd (omega arith)
some_name (name ∷ names) i within = λ none. absurd cc

-- All bytes of a file are read.
pub whole : (known remaining : Option (List ℕ)) (old new : List ℕ) → remaining ≡ known → old ≡ [] → IfSome remaining (λ xs. new ≡ old ++ xs) → IfSome known (λ xs. new ≡ xs)
whole None remaining old new is none given = tt
whole (Some xs) remaining old new is none given = rw (is, none) at given

pub refused : (text : List ℕ) (error : ReadTablesError) (status : Status) → status ≡ status_of error → IsReadError text error → ((status ≡ Usage) × HasFault text) ⊎ (status ≡ Failed)
refused text (Fault fault place) status is why = inl (is, (fault, place, why))
refused text Memory status is why = inr is
