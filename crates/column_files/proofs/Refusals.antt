-- Why a text isn't read.
use Rattle.std.proofs.Common.{◌≡◌, ◌⊎◌, inl, inr, List, ℕ, refl, sym, subst}
use Rattle.column_files.specs.Files.{IsFile, IsInvalid}
use Rattle.column_files.specs.Tables.{IsTablesError}
use Rattle.column_files.specs.declared.error.ColumnFileError.{ColumnFileError}
use Rattle.column_files.specs.declared.error.ColumnFileError.TheVariants.{Invalid, Memory}
use Rattle.column_files.specs.declared.files.ColumnLine.{ColumnLine}
use Rattle.column_files.specs.declared.tables.DeclaredTablesError.{DeclaredTablesError}
use Rattle.column_files.specs.declared.tables.DeclaredTablesError.TheVariants as tables
use Rattle.column_files.specs.Texts.{IsReadError, read_error_of, tables_error_of}
use Rattle.column_files.specs.declared.tables_error.ReadTablesError.{ReadTablesError}

pub text_refused : (text : List ℕ) (error : ColumnFileError) (result : ReadTablesError) → result ≡ read_error_of text error → (error ≡ Memory) ⊎ IsInvalid text error → IsReadError text result
text_refused text (Invalid fault index) result is (inl memory) = absurd cc
text_refused text (Invalid fault index) result is (inr invalid) = subst (λ (r : ReadTablesError). IsReadError text r) (sym is) (index, invalid, refl)
text_refused text Memory result is why = subst (λ (r : ReadTablesError). IsReadError text r) (sym is) tt

pub tables_refused : (text : List ℕ) (lines : List ColumnLine) (error : DeclaredTablesError) (result : ReadTablesError) → IsFile text lines → result ≡ tables_error_of text error → IsTablesError lines error → IsReadError text result
tables_refused text lines (tables.Position index) result file is why = subst (λ (r : ReadTablesError). IsReadError text r) (sym is) (lines, index, file, why, refl)
tables_refused text lines tables.Memory result file is why = subst (λ (r : ReadTablesError). IsReadError text r) (sym is) tt
