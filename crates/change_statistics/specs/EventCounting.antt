-- Counting events, fact by fact.
use Rattle.std.specs.Prelude.{ℕ}
use Rattle.change_statistics.specs.Facts.{Fact}
use Rattle.change_statistics.specs.Counting.{counted, counted_if}
use Rattle.change_statistics.specs.WholeCounts.{rows_in, has_uncounted}
use Rattle.change_statistics.specs.declared.facts.ChangeKind.TheVariants.{Inserted, Updated, Deleted}
use Rattle.change_statistics.specs.declared.event_counts.EventCounts.{EventCounts}

-- Nothing is counted.
abbrev pub no_event_counts : EventCounts
no_event_counts = record { events = 0; bytes = 0; transactions = 0; inserted = 0; updated = 0; deleted = 0; unread_events = 0 }

-- The counts with one more event, of so many bytes.
abbrev pub with_event : EventCounts → (bytes : ℕ) → Fact → EventCounts
with_event old bytes fact = record {
  events = counted old.events 1;
  bytes = counted old.bytes bytes;
  transactions = counted_if fact.begins old.transactions;
  inserted = counted old.inserted (rows_in Inserted fact);
  updated = counted old.updated (rows_in Updated fact);
  deleted = counted old.deleted (rows_in Deleted fact);
  unread_events = counted_if (has_uncounted fact) old.unread_events;
}
