-- Lines of types that are written one behind the other.
use Rattle.std.proofs.Common.{◌≡◌, ℕ, ◌+◌, suc, List, ◌++◌, Option, Some, None, slice_index_or, refl, sym, arith}
use Rattle.std.proofs.lemmas.List.{append-nil}
use Rattle.std.specs.Io.KnownBytes.{Appends}
use Rattle.change_statistics.proofs.WrittenTexts.{appends_both}
use Rattle.binlog_commands.specs.declared.stats.Stats.{Stats}
use Rattle.binlog_summaries.specs.TypeJson.{lines_below, type_line}

next_line : (number : ℕ) (stats : Stats) → lines_below (suc number) stats ≡ lines_below number stats ++ type_line number (slice_index_or stats.events number 0) (slice_index_or stats.bytes number 0)
unfolding lines_below
next_line number stats = refl

pub no_line_appended : (stats : Stats) (old : Option (List ℕ)) → Appends old old (lines_below 0 stats)
unfolding lines_below
no_line_appended stats None = tt
no_line_appended stats (Some bytes) = sym (append-nil bytes)

pub line_appended : (number : ℕ) (stats : Stats) (old mid new : Option (List ℕ)) → Appends old mid (lines_below number stats)
    → Appends mid new (type_line number (slice_index_or stats.events number 0) (slice_index_or stats.bytes number 0)) → Appends old new (lines_below (number + 1) stats)
line_appended number stats old mid new first second =
    let next : number + 1 ≡ suc number = omega arith in
    rw (next, next_line) (appends_both old mid new (lines_below number stats) _ first second)
