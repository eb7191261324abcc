-- The statistics by table of whole lists of facts.
use Rattle.std.specs.Prelude.{◌≡◌, ◌≢◌, ◌<◌, ◌^◌, List, [], length, filter, count_by, sum_by, MatchOption, option_map}
use Rattle.change_statistics.specs.Facts.{Name, Fact}
use Rattle.change_statistics.specs.Counting.{saturated}
use Rattle.change_statistics.specs.Tables.{counts_named}
use Rattle.change_statistics.specs.WholeCounts.{begins, time, rows_in, is_unread, is_unknown, of_table, sizes_of, transactions_in, touches, first_of, last_of}
use Rattle.change_statistics.specs.declared.facts.ChangeKind.TheVariants.{Inserted, Updated, Deleted}
use Rattle.change_statistics.specs.declared.table_counts.TableCounts.{TableCounts}
use Rattle.change_statistics.specs.declared.tables.TableStats.{TableStats}

-- The counts are those of the events that have rows of the table with this name. No log has 2^64 transactions.
pub record AreTableCounts (facts : List Fact) (name : Name) (counts : TableCounts) : Type 0 where
  pub inserted : counts.inserted ≡ saturated (sum_by (rows_in Inserted) (of_table name facts))
  pub updated : counts.updated ≡ saturated (sum_by (rows_in Updated) (of_table name facts))
  pub deleted : counts.deleted ≡ saturated (sum_by (rows_in Deleted) (of_table name facts))
  pub events : counts.events ≡ saturated (length (of_table name facts))
  pub unread_events : counts.unread_events ≡ saturated (count_by is_unread (of_table name facts))
  pub bytes : counts.bytes ≡ saturated (sizes_of (of_table name facts))
  pub transactions : count_by begins facts < 2 ^ 64 → counts.transactions ≡ saturated (count_by (touches name) (transactions_in facts))
  pub first_time : counts.first_time ≡ option_map time (first_of (of_table name facts))
  pub last_time : counts.last_time ≡ option_map time (last_of (of_table name facts))

-- The statistics are those of all events: exactly the tables of which an event has rows have counts.
pub record AreTableStats (facts : List Fact) (stats : TableStats) : Type 0 where
  pub tables : (name : Name) → MatchOption (counts_named stats name) (of_table name facts ≡ []) (λ counts. (of_table name facts ≢ []) × AreTableCounts facts name counts)
  pub transactions : stats.transactions ≡ saturated (count_by begins facts)
  pub unknown_events : stats.unknown.events ≡ saturated (count_by is_unknown facts)
  pub unknown_bytes : stats.unknown.bytes ≡ saturated (sizes_of (filter is_unknown facts))
