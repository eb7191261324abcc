-- The rows of the types.
use Rattle.std.proofs.Common.{◌≡◌, ℕ, ◌+◌, suc, List, ◌++◌, Option, Some, None, slice_index_or, refl, sym, arith}
use Rattle.std.proofs.lemmas.List.{append-nil}
use Rattle.std.specs.Io.KnownBytes.{Appends}
use Rattle.change_statistics.proofs.WrittenTexts.{appends_both}
use Rattle.binlog_summaries.specs.StatsText.{rows_below, row_of}
use Rattle.binlog_commands.specs.declared.stats.Stats.{Stats}

next_row : (number : ℕ) (stats : Stats) (all : ℕ) → rows_below (suc number) stats all ≡ rows_below number stats all ++ row_of number (slice_index_or stats.events number 0) (slice_index_or stats.bytes number 0) all
unfolding rows_below
next_row number stats all = refl

pub no_row_written : (stats : Stats) (all : ℕ) (old : Option (List ℕ)) → Appends old old (rows_below 0 stats all)
unfolding rows_below
no_row_written stats all None = tt
no_row_written stats all (Some bytes) = sym (append-nil bytes)

pub row_written : (number : ℕ) (stats : Stats) (all : ℕ) (old mid new : Option (List ℕ)) → Appends old mid (rows_below number stats all)
    → Appends mid new (row_of number (slice_index_or stats.events number 0) (slice_index_or stats.bytes number 0) all) → Appends old new (rows_below (number + 1) stats all)
row_written number stats all old mid new first second =
    let next : number + 1 ≡ suc number = omega arith in
    rw (next, next_row) (appends_both old mid new (rows_below number stats all) _ first second)
