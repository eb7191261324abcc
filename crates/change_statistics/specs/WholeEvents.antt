-- The counts of whole lists of facts.
use Rattle.std.specs.Prelude.{◌≡◌, ℕ, List, length, count_by, sum_by}
use Rattle.change_statistics.specs.Facts.{Fact}
use Rattle.change_statistics.specs.Counting.{saturated}
use Rattle.change_statistics.specs.WholeCounts.{begins, rows_in, has_uncounted}
use Rattle.change_statistics.specs.declared.facts.ChangeKind.TheVariants.{Inserted, Updated, Deleted}
use Rattle.change_statistics.specs.declared.event_counts.EventCounts.{EventCounts}

-- The counts are those of these events, of which `bytes_of` says how many bytes one counts with.
pub record AreEventCounts (bytes_of : Fact → ℕ) (facts : List Fact) (counts : EventCounts) : Type 0 where
  pub events : counts.events ≡ saturated (length facts)
  pub bytes : counts.bytes ≡ saturated (sum_by bytes_of facts)
  pub transactions : counts.transactions ≡ saturated (count_by begins facts)
  pub inserted : counts.inserted ≡ saturated (sum_by (rows_in Inserted) facts)
  pub updated : counts.updated ≡ saturated (sum_by (rows_in Updated) facts)
  pub deleted : counts.deleted ≡ saturated (sum_by (rows_in Deleted) facts)
  pub unread_events : counts.unread_events ≡ saturated (count_by has_uncounted facts)
