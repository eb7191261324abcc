-- The facts of the items of a log.
use Rattle.std.specs.Prelude.{◌≡◌, ℕ, Bool, true, false, List, [], ◌∷◌, length, take, Option, Some, None, option_and_then, Result, Ok, Err}
use Rattle.binlog_wire.specs.declared.error.Error.{Error}
use Rattle.binlog_event_format.specs.Headers.{header_of}
use Rattle.binlog_rows.specs.declared.table_map_event.TableMapEvent.{TableMapEvent}
use Rattle.binlog_events.specs.Events.{EventView}
use Rattle.binlog_file.specs.TableMapsInForce.{TableMaps}
use Rattle.binlog_visits.specs.TableMaps.{maps_behind}
use Rattle.binlog_filters.specs.Places.{behind}
use Rattle.binlog_filters.specs.Taking.{Takes, begins_transaction}
use Rattle.binlog_filters.specs.declared.filter.Filter.{Filter}
use Rattle.binlog_filters.specs.declared.state.FilterState.{FilterState}
use Rattle.binlog_statistics.specs.TransactionGtids.{FollowsGtid}
use Rattle.change_statistics.specs.Facts.{Name, Rows, nothing, unknown, rows, Fact}
use Rattle.change_statistics.specs.declared.facts.ChangeKind.{ChangeKind}
use Rattle.binlog_statistics.specs.Found.{FindsMappedRows, FindsRows}
use Rattle.binlog_statistics.specs.declared.finding.RowsFound.{RowsFound}
use Rattle.binlog_statistics.specs.declared.finding.RowsFound.TheVariants as found

-- The names that a table map has: at most 255 bytes each.
abbrev pub name_in : TableMapEvent → Name
name_in map = record { database = take 255 map.table.database_name; table = take 255 map.table.table_name }

-- Rows of the table with this table map; of a table that isn't known, if there is none.
abbrev pub rows_of : Option TableMapEvent → ChangeKind → Option ℕ → Rows
rows_of None kind count = unknown
rows_of (Some map) kind count = rows (name_in map) kind count

-- What is said of rows, by the table map in force for them.
abbrev pub rows_said : Option TableMapEvent → RowsFound → Rows
rows_said map found.Other = nothing
rows_said map found.Unreadable = unknown
rows_said map (found.Rows changed) = rows_of map changed.kind changed.count

abbrev pub table_id_of : RowsFound → Option ℕ
table_id_of (found.Rows changed) = Some changed.table_id
table_id_of said = None

-- The table map in force for the rows that were found.
abbrev pub map_of_rows : TableMaps → RowsFound → Option TableMapEvent
map_of_rows maps found = option_and_then maps (table_id_of found)

-- The facts of an event that says this of rows, by the table map in force for them, where the transaction that begins with it has this GTID.
abbrev pub fact_with : Option TableMapEvent → EventView → RowsFound → (gtid : List ℕ) → Fact
fact_with map event found gtid = record {
  begins = begins_transaction (header_of event.frame).event_type;
  gtid = gtid;
  bytes = length event.frame;
  size = length event.frame;
  end = (header_of event.frame).log_pos;
  time = (header_of event.frame).timestamp;
  rows = rows_said map found;
}

-- The facts of an event, where these table maps are in force. The GTID is empty if no transaction begins with it.
abbrev pub IsFact : TableMaps → EventView → Fact → Type 0
IsFact maps event fact =
    (found : RowsFound) × FindsRows maps event found × (gtid : List ℕ) × FollowsGtid [] event gtid × (fact ≡ fact_with (map_of_rows maps found) event found gtid)

-- The facts of an event inside a compressed transaction that says this of rows. It begins no transaction, takes no bytes of the log, and ends
-- at `end`, where the event that has the transaction does.
abbrev pub part_fact_with : Option TableMapEvent → (end : ℕ) → EventView → RowsFound → Fact
part_fact_with map end event found = record {
  begins = false;
  gtid = [];
  bytes = 0;
  size = length event.frame;
  end = end;
  time = (header_of event.frame).timestamp;
  rows = rows_said map found;
}

abbrev pub IsPartFact : (end : ℕ) → TableMaps → EventView → Fact → Type 0
IsPartFact end maps event fact = (found : RowsFound) × FindsRows maps event found × (fact ≡ part_fact_with (map_of_rows maps found) end event found)

-- The facts of a row event of the table of this table map.
abbrev pub IsMappedFact : TableMapEvent → EventView → Fact → Type 0
IsMappedFact map event fact = (found : RowsFound) × FindsMappedRows map event found × (fact ≡ fact_with (Some map) event found [])

-- ---- items one after another

-- The facts of an item, before those of others: that of an event, and none of an error.
abbrev pub AreItemFacts : TableMaps → Result EventView Error → (others facts : List Fact) → Type 0
AreItemFacts maps (Ok event) others facts = (fact : Fact) × IsFact maps event fact × (facts ≡ fact ∷ others)
AreItemFacts maps (Err error) others facts = facts ≡ others

-- The facts of items one after another, where these table maps are in force before the first one.
abbrev pub AreFacts : TableMaps → List (Result EventView Error) → List Fact → Type 0
AreFacts maps [] facts = facts ≡ []
AreFacts maps (item ∷ items) facts = (others : List Fact) × AreFacts (maps_behind maps item) items others × AreItemFacts (maps_behind maps item) item others facts

-- The facts of an item, if it is taken.
abbrev pub AreFactsIf : (taken : Bool) → TableMaps → Result EventView Error → (others facts : List Fact) → Type 0
AreFactsIf true maps item others facts = AreItemFacts maps item others facts
AreFactsIf false maps item others facts = facts ≡ others

-- The facts of the items that a filter takes, of items one after another. The first item begins at `position`, `maps` are the table maps
-- in force before it, and `was` is what is known there. The table maps are those of all items.
abbrev pub AreTakenFacts : (filter : Filter) (maps : TableMaps) (position : Option ℕ) (was : FilterState) (items : List (Result EventView Error)) (facts : List Fact) → Type 0
AreTakenFacts filter maps position was [] facts = facts ≡ []
AreTakenFacts filter maps position was (item ∷ items) facts =
    (now : FilterState) × (taken : Bool) × Takes filter (maps_behind maps item) position was item now taken
    × (others : List Fact) × AreTakenFacts filter (maps_behind maps item) (behind position item) now items others × AreFactsIf taken (maps_behind maps item) item others facts
