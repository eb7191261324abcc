-- The counts of events with one more.
use Rattle.std.proofs.Common.{◌≡◌, ℕ, ◌+◌, List, [], ◌∷◌, ◌++◌, length, refl, sym, ap, ◌∙◌}
use Rattle.std.specs.Prelude.{count_by, sum_by}
use Rattle.std.proofs.lemmas.List.{length_push}
use Rattle.std.proofs.lemmas.List.Sums.{sum_by_push}
use Rattle.change_statistics.specs.Facts.{Fact}
use Rattle.change_statistics.specs.Counting.{saturated}
use Rattle.change_statistics.specs.EventCounting.{no_event_counts, with_event}
use Rattle.change_statistics.specs.WholeCounts.{begins, rows_in, has_uncounted}
use Rattle.change_statistics.specs.WholeEvents.{AreEventCounts}
use Rattle.change_statistics.specs.declared.facts.ChangeKind.TheVariants.{Inserted, Updated, Deleted}
use Rattle.change_statistics.specs.declared.event_counts.EventCounts.{EventCounts}
use Rattle.change_statistics.proofs.MoreCounted.{counted_more, counted_if_more, count_more}

pub none_counted : (bytes_of : Fact → ℕ) → AreEventCounts bytes_of [] no_event_counts
none_counted bytes_of = record { events = refl; bytes = refl; transactions = refl; inserted = refl; updated = refl; deleted = refl; unread_events = refl }

pub one_counted : (bytes_of : Fact → ℕ) (l : List Fact) (fact : Fact) (counts : EventCounts) → AreEventCounts bytes_of l counts
    → AreEventCounts bytes_of (l ++ fact ∷ []) (with_event counts (bytes_of fact) fact)
one_counted bytes_of l fact counts was =
    let sums : (f : Fact → ℕ) → sum_by f (l ++ fact ∷ []) ≡ sum_by f l + f fact = λ f. sum_by_push f l fact in
    record {
      events = counted_more counts.events (length l) 1 was.events ∙ ap saturated (sym (length_push l fact));
      bytes = counted_more counts.bytes (sum_by bytes_of l) (bytes_of fact) was.bytes ∙ ap saturated (sym (sums bytes_of));
      transactions = counted_if_more fact.begins counts.transactions (count_by begins l) was.transactions ∙ ap saturated (sym (count_more begins l fact));
      inserted = counted_more counts.inserted (sum_by (rows_in Inserted) l) (rows_in Inserted fact) was.inserted ∙ ap saturated (sym (sums (rows_in Inserted)));
      updated = counted_more counts.updated (sum_by (rows_in Updated) l) (rows_in Updated fact) was.updated ∙ ap saturated (sym (sums (rows_in Updated)));
      deleted = counted_more counts.deleted (sum_by (rows_in Deleted) l) (rows_in Deleted fact) was.deleted ∙ ap saturated (sym (sums (rows_in Deleted)));
      unread_events =
          counted_if_more (has_uncounted fact) counts.unread_events (count_by has_uncounted l) was.unread_events ∙ ap saturated (sym (count_more has_uncounted l fact));
    }
