-- Which parts of a compressed transaction a filter of tables takes.
use Rattle.std.specs.Prelude.{◌≡◌, ℕ, Bool, true, false, ◌||◌, Option, Some, None, option_map, Ok, Err}
use Rattle.binlog_consts.specs.EventTypes.{event_type_of}
use Rattle.binlog_event_format.specs.Headers.{header_of}
use Rattle.binlog_events.specs.Events.{EventView}
use Rattle.binlog_file.specs.TableMapsInForce.{TableMaps, no_table_maps}
use Rattle.binlog_filters.specs.Concerns.{is_concerned, is_unknown}
use Rattle.binlog_filters.specs.Tables.{asks_for_map, ReadsConcern}
use Rattle.binlog_filters.specs.declared.concern.Concern.{Concern}
use Rattle.binlog_filters.specs.declared.concern.Concern.TheVariants.{Taken, Rows}
use Rattle.binlog_filters.specs.declared.tables.TableFilter.{TableFilter}
use Rattle.binlog_filters.specs.RowEvents.{is_of_rows, table_id_of}
use Rattle.binlog_payload_visits.specs.Parts.{Part}

-- Rows of the table whose table map is in force inside for this id. A row event whose data can't be read is taken.
abbrev pub rows_concern : TableFilter → TableMaps → (table_id : Option ℕ) → Concern
rows_concern tables maps None = Taken
rows_concern tables maps (Some table_id) = Rows (record { is_asked = option_map (asks_for_map tables) (maps table_id); ends_statement = false })

-- What the filter makes of an event inside: of a row event by the table map in force, of any other one by its data, as outside.
abbrev pub IsConcernOf : (is_of_rows : Bool) → TableFilter → TableMaps → EventView → Concern → Type 0
IsConcernOf true tables maps event concern = concern ≡ rows_concern tables maps (table_id_of event)
IsConcernOf false tables maps event concern = ReadsConcern tables false no_table_maps event concern

abbrev pub IsConcern : TableFilter → TableMaps → EventView → Concern → Type 0
IsConcern tables maps event concern = IsConcernOf (is_of_rows (event_type_of (header_of event.frame).event_type)) tables maps event concern

-- The event is of the tables, or may change one of them, though nothing says so.
abbrev pub may_change : Concern → Bool
may_change concern = is_concerned false false concern || is_unknown concern

-- Whether an event inside is taken.
abbrev pub TakesEvent : TableFilter → TableMaps → EventView → Bool → Type 0
TakesEvent tables maps event taken = (concern : Concern) × IsConcern tables maps event concern × (taken ≡ may_change concern)

-- Whether a part is. An error always is.
abbrev pub TakesPart : TableFilter → TableMaps → Part → Bool → Type 0
TakesPart tables maps (Ok event) taken = TakesEvent tables maps event taken
TakesPart tables maps (Err e) taken = taken ≡ true

-- The same where there may be no condition of tables.
abbrev pub TakesIfAsked : Option TableFilter → TableMaps → EventView → Bool → Type 0
TakesIfAsked None maps event taken = taken ≡ true
TakesIfAsked (Some tables) maps event taken = TakesEvent tables maps event taken

abbrev pub TakesPartIfAsked : Option TableFilter → TableMaps → Part → Bool → Type 0
TakesPartIfAsked tables maps (Ok event) taken = TakesIfAsked tables maps event taken
TakesPartIfAsked tables maps (Err e) taken = taken ≡ true
