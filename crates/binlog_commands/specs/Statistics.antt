-- Counting the events of a log by type.
use Rattle.std.specs.Prelude.{◌≡◌, ℕ, List, length, slice_set, slice_index_or, replicate, Option, Some, None, unwrap_or, Result, Ok, Err, nat_lt, if◌then◌else◌}
use Rattle.std.specs.List.{sum}
use Rattle.binlog_wire.specs.declared.error.Error.{Error}
use Rattle.binlog_event_format.specs.Headers.{header_of}
use Rattle.binlog_events.specs.Events.{EventView}
use Rattle.binlog_filters.specs.Taking.{begins_transaction}
use Rattle.binlog_commands.specs.Counting.{saturated, counted, counted_if}
use Rattle.binlog_commands.specs.declared.stats.Stats.{Stats}
use Rattle.binlog_commands.specs.declared.stats.Largest.{Largest}

-- The sum of the counts; 2^64 - 1 if it is larger.
abbrev pub total : List ℕ → ℕ
total counts = saturated (sum counts)

-- Nothing is counted yet.
abbrev pub no_items : Stats
no_items = record { events = replicate 256 0; bytes = replicate 256 0; errors = 0; transactions = 0; first_time = None; last_time = None; largest = None }

-- The larger event of the two, the first one if they have the same size.
abbrev pub larger : Option Largest → Largest → Option Largest
larger None event = Some event
larger (Some largest) event = if nat_lt largest.size event.size then Some event else Some largest

-- The item is counted.
abbrev pub CountsItem : Stats → ℕ → Result EventView Error → Stats → Type 0
CountsItem old index (Ok event) new =
    let header = header_of event.frame in
    new ≡ record {
      events = slice_set old.events header.event_type (counted (slice_index_or old.events header.event_type 0) 1);
      bytes = slice_set old.bytes header.event_type (counted (slice_index_or old.bytes header.event_type 0) (length event.frame));
      errors = old.errors;
      transactions = counted_if (begins_transaction header.event_type) old.transactions;
      first_time = Some (unwrap_or old.first_time header.timestamp);
      last_time = Some header.timestamp;
      largest = larger old.largest (record { index = index; size = header.event_size; event_type = header.event_type });
    }
CountsItem old index (Err error) new = new ≡ record old { errors = counted old.errors 1 }
