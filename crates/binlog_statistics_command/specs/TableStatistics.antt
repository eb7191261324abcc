-- What `binlog stats --by table` makes of its output.
use Rattle.std.specs.Prelude.{◌≡◌, ◌⊎◌, ℕ, Bool, true, false, List, Option}
use Rattle.std.specs.Io.KnownBytes.{Appends}
use Rattle.std.specs.List.Sorted.{IsPermutation}
use Rattle.change_statistics.specs.SortedTables.{AreSorted, AreInOrder, KeepsOthers}
use Rattle.change_statistics.specs.declared.tables.TableStats.{TableStats}
use Rattle.binlog_cli.specs.Outputs.{written}
use Rattle.binlog_summaries.specs.StatsText.{Writes}
use Rattle.binlog_cli.specs.declared.exit_status.Outcome.{Outcome}
use Rattle.binlog_cli.specs.declared.exit_status.Status.TheVariants.{Failed}
use Rattle.binlog_summaries.specs.TableText.{IsTablesText}
use Rattle.binlog_summaries.specs.TableJson.{tables_json}
use Rattle.binlog_summaries.specs.declared.options.StatsOptions.{StatsOptions}
use Rattle.binlog_statistics_command.specs.WrittenRows.{WritesOr}

-- The same tables with the same counts, those with most bytes first, and those with equally many in the order of their first row events.
pub record IsSorted (old new : TableStats) : Type 0 where
  pub all : IsPermutation old.tables.entries new.tables.entries
  pub sorted : AreSorted new.tables.entries
  pub stable : AreInOrder old.tables.entries new.tables.entries
  pub others : KeepsOthers old new

-- The same tables with the same counts, in any order.
pub record IsSameTables (old new : TableStats) : Type 0 where
  pub all : IsPermutation old.tables.entries new.tables.entries
  pub others : KeepsOthers old new

-- The text of the statistics, or their lines of JSON, are written.
abbrev pub WritesSorted : (is_json : Bool) → (top : Option ℕ) → TableStats → (old new : Option (List ℕ)) → Type 0
WritesSorted true top sorted old new = Appends old new (tables_json top sorted)
WritesSorted false top sorted old new = Writes (λ text. IsTablesText top sorted text) old new

-- Such statistics are sorted and written.
abbrev pub WritesRows : StatsOptions → TableStats → Outcome → (old new : Option (List ℕ)) → Type 0
WritesRows options stats outcome old new = WritesOr ((sorted : TableStats) × IsSorted stats sorted × WritesSorted options.is_json options.top sorted old new) outcome

-- Statistics by table are written; nothing is if there was no room for a table, and the outcome says so.
abbrev pub WritesTables : StatsOptions → TableStats → Outcome → (old new : Option (List ℕ)) → Type 0
WritesTables options stats outcome old new =
    ((stats.is_full ≡ true) × (outcome ≡ written Failed) × (new ≡ old)) ⊎ ((stats.is_full ≡ false) × WritesRows options stats outcome old new)
