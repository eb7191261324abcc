-- Rows and lines of types that are written one behind the other.
use Rattle.std.proofs.Common.{◌≡◌, ℕ, ◌+◌, suc, List, ◌++◌, Option, Some, None, slice_index_or, refl, sym, arith}
use Rattle.std.proofs.lemmas.List.{append-nil}
use Rattle.std.specs.Io.KnownBytes.{Appends}
use Rattle.change_statistics.proofs.WrittenTexts.{appends_both}
use Rattle.change_statistics.specs.declared.type_counts.TypeCounts.{TypeCounts}
use Rattle.binlog_summaries.specs.InnerTypes.{row_of, rows_below, line_at, lines_below}

next_row : (number : ℕ) (counts : TypeCounts) → rows_below (suc number) counts ≡ rows_below number counts ++ row_of number (slice_index_or counts.events number 0) (slice_index_or counts.bytes number 0)
unfolding rows_below
next_row number counts = refl

pub no_row_written : (counts : TypeCounts) (old : Option (List ℕ)) → Appends old old (rows_below 0 counts)
unfolding rows_below
no_row_written counts None = tt
no_row_written counts (Some bytes) = sym (append-nil bytes)

pub row_written : (number : ℕ) (counts : TypeCounts) (old mid new : Option (List ℕ)) → Appends old mid (rows_below number counts)
    → Appends mid new (row_of number (slice_index_or counts.events number 0) (slice_index_or counts.bytes number 0)) → Appends old new (rows_below (number + 1) counts)
row_written number counts old mid new first second =
    let next : number + 1 ≡ suc number = omega arith in
    rw (next, next_row) (appends_both old mid new (rows_below number counts) _ first second)

next_line : (number : ℕ) (counts : TypeCounts) → lines_below (suc number) counts ≡ lines_below number counts ++ line_at number (slice_index_or counts.events number 0) (slice_index_or counts.bytes number 0)
unfolding lines_below
next_line number counts = refl

pub no_line_appended : (counts : TypeCounts) (old : Option (List ℕ)) → Appends old old (lines_below 0 counts)
unfolding lines_below
no_line_appended counts None = tt
no_line_appended counts (Some bytes) = sym (append-nil bytes)

pub line_appended : (number : ℕ) (counts : TypeCounts) (old mid new : Option (List ℕ)) → Appends old mid (lines_below number counts)
    → Appends mid new (line_at number (slice_index_or counts.events number 0) (slice_index_or counts.bytes number 0)) → Appends old new (lines_below (number + 1) counts)
line_appended number counts old mid new first second =
    let next : number + 1 ≡ suc number = omega arith in
    rw (next, next_line) (appends_both old mid new (lines_below number counts) _ first second)
