-- The whole text of the counts.
use Rattle.std.proofs.Common.{◌≡◌, ℕ, List, ◌++◌, codes, Option, ap, Result, OnOk}
use Rattle.std.specs.Io.KnownBytes.{Appends}
use Rattle.binlog_commands.specs.Statistics.{total}
use Rattle.binlog_commands.specs.declared.stats.Stats.{Stats}
use Rattle.binlog_summaries.specs.StatsText.{IsStatsText, IsTimeLine, Writes, head_lines, largest_line, rows_below}
use Rattle.change_statistics.proofs.WrittenTexts.{on_ok, appends_both}

pub whole_text : {T E : Type 0} (result : Result T E) (stats : Stats) (all : ℕ) (first last : List ℕ) (old head_end first_end last_end largest_end new : Option (List ℕ))
    → all ≡ total stats.bytes → IsTimeLine (codes "first") stats.first_time first → IsTimeLine (codes "last") stats.last_time last
    → Appends old head_end (head_lines stats) → Appends head_end first_end first → Appends first_end last_end last → Appends last_end largest_end (largest_line stats.largest)
    → OnOk result (Appends largest_end new (rows_below 256 stats all)) → OnOk result (Writes (λ text. IsStatsText stats text) old new)
whole_text result stats all first last old head_end first_end last_end largest_end new same is_first is_last a b c d rows =
    let before : Appends old largest_end (head_lines stats ++ first ++ last ++ largest_line stats.largest) =
    appends_both old last_end largest_end (head_lines stats ++ first ++ last) _ (appends_both old first_end last_end (head_lines stats ++ first) _ (appends_both old head_end first_end (head_lines stats) _ a b) c) d in
    on_ok result
    (λ (row : Appends largest_end new (rows_below 256 stats all)). record {
      text = head_lines stats ++ first ++ last ++ largest_line stats.largest ++ rows_below 256 stats all;
      is = record {
        first = first;
        is_first = is_first;
        last = last;
        is_last = is_last;
        is = ap (λ (sum : ℕ). head_lines stats ++ first ++ last ++ largest_line stats.largest ++ rows_below 256 stats sum) same;
      };
      appended = appends_both old largest_end new (head_lines stats ++ first ++ last ++ largest_line stats.largest) (rows_below 256 stats all) before row;
    })
    rows
