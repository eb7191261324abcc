-- Which compressed transactions a filter of tables takes.
use Rattle.std.specs.Prelude.{◌≡◌, ℕ, ◌==◌, Bool, true, false, List, [], ◌∷◌, Ok}
use Rattle.binlog_event_format.specs.Headers.{header_of}
use Rattle.binlog_events.specs.Events.{EventView}
use Rattle.binlog_file.specs.TableMapsInForce.{TableMaps, no_table_maps}
use Rattle.binlog_filters.specs.declared.tables.TableFilter.{TableFilter}
use Rattle.binlog_payload_visits.specs.Parts.{Part, AreParts, maps_behind_part}
use Rattle.binlog_payload_filters.specs.PartConcerns.{TakesPart}

-- The type of an event is that of events with a payload.
abbrev pub is_payload : EventView → Bool
is_payload event = (header_of event.frame).event_type == 40

-- Whether a part is taken, where `was` says so of those before it.
abbrev pub TakesFirst : (was : Bool) → TableFilter → TableMaps → Part → Bool → Type 0
TakesFirst true tables maps part taken = taken ≡ true
TakesFirst false tables maps part taken = TakesPart tables maps part taken

-- Whether one of these is taken, where `first` says so of the first, and `others` of those behind it.
abbrev pub TakesOr : (first : Bool) → (others : Bool → Type 0) → Bool → Type 0
TakesOr true others taken = taken ≡ true
TakesOr false others taken = others taken

-- Whether one of these parts is taken: the first that is decides. `maps` are the table maps in force before them.
abbrev pub TakesOne : TableFilter → TableMaps → List Part → Bool → Type 0
TakesOne tables maps [] taken = taken ≡ false
TakesOne tables maps (part ∷ parts) taken =
    (first : Bool) × TakesPart tables (maps_behind_part maps part) part first × TakesOr first (λ others. TakesOne tables (maps_behind_part maps part) parts others) taken

-- Whether a part of the event is taken. A content of more than `limit` bytes is an error, which is.
abbrev pub TakesContent : (limit : ℕ) → TableFilter → EventView → Bool → Type 0
TakesContent limit tables event taken = (parts : List Part) × AreParts limit (Ok event) parts × TakesOne tables no_table_maps parts taken
