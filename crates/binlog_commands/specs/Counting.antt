-- Counting the items of a log.
use Rattle.std.specs.Prelude.{◌≡◌, ℕ, ◌+◌, ◌-◌, ◌^◌, min, Bool, length, is_some, Result, Ok, Err, if◌then◌else◌}
use Rattle.binlog_wire.specs.declared.error.Error.{Error}
use Rattle.binlog_events.specs.Events.{EventView}
use Rattle.binlog_events.specs.Parts.{checksum_of}
use Rattle.binlog_commands.specs.declared.tally.Tally.{Tally}

-- Nothing is counted yet.
abbrev pub none_counted : Tally
none_counted = record { events = 0; bytes = 0; checksums = 0; errors = 0 }

-- A visit that is never refused.
abbrev pub IsNever : Type 0
IsNever = ⊥

-- The number; 2^64 - 1 if it is larger.
abbrev pub saturated : ℕ → ℕ
saturated n = min n (2 ^ 64 - 1)

-- The count after so many more; it stays at the largest number of 64 bits.
abbrev pub counted : ℕ → ℕ → ℕ
counted count more = saturated (count + more)

-- The count, with one more if this holds.
abbrev pub counted_if : Bool → ℕ → ℕ
counted_if b count = if b then counted count 1 else count

-- An event that the end of the log cuts counts as an error, if there is one.
abbrev pub with_cut : Bool → Tally → Tally
with_cut is_cut tally = record tally { errors = counted_if is_cut tally.errors }

-- The item is counted.
abbrev pub Counts : Tally → Result EventView Error → Tally → Type 0
Counts old (Ok event) new = new ≡ record {
  events = counted old.events 1;
  bytes = counted old.bytes (length event.frame);
  checksums = counted_if (is_some (checksum_of event.fde.footer event.frame)) old.checksums;
  errors = old.errors;
}
Counts old (Err error) new = new ≡ record old { errors = counted old.errors 1 }
