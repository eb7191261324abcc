-- The tables of a log that contradict files of columns.
use Rattle.std.specs.Prelude.{◌≡◌, ℕ, ◌+◌, ◌&&◌, List, [], ◌∷◌, bytes_eq, Option, None, Some, Result, Ok, Err, if◌then◌else◌}
use Rattle.std.specs.Option.{option_or}
use Rattle.binlog_wire.specs.declared.error.Error.{Error}
use Rattle.binlog_events.specs.Events.{EventView}
use Rattle.binlog_rows.specs.declared.table_map_event.TableMapEvent.{TableMapEvent}
use Rattle.binlog_file.specs.TableMapsInForce.{TableMaps}
use Rattle.binlog_visits.specs.TableMaps.{maps_behind}
use Rattle.binlog_declared_columns.specs.Contradictions.{NotesColumn}
use Rattle.binlog_declared_columns.specs.declared.contradictions.Contradictions.{Contradictions}
use Rattle.binlog_json_lines.specs.Lines.{IsLineAt, map_of_event}
use Rattle.binlog_json_lines.specs.PartLines.{IsPartLineAt, map_of_part}
use Rattle.binlog_json_lines.specs.Options.{RowOptions}
use Rattle.binlog_json_lines.specs.RowMembers.{schema_in, table_in}
use Rattle.binlog_payload_visits.specs.Parts.{Part}

-- The table map of the rows of an item.
abbrev pub map_of_item : TableMaps → Result EventView Error → Option TableMapEvent
map_of_item maps (Ok event) = map_of_event maps event
map_of_item maps (Err error) = None

-- The column that contradicts the files, if one does, is noted for the table of this table map.
abbrev pub NotesIf : (contradiction : Option ℕ) → Option TableMapEvent → (old new : Contradictions) → Type 0
NotesIf None map old new = new ≡ old
NotesIf (Some column) None old new = new ≡ old
NotesIf (Some column) (Some map) old new = NotesColumn old new (schema_in map) (table_in map) column

-- The text is the line of an item, and the column of its table that contradicts the files, if one does, is noted.
pub record ShowsItem (options : RowOptions) (maps : TableMaps) (index : ℕ) (item : Result EventView Error) (old new : Contradictions) (text : List ℕ) : Type 0 where
  pub contradiction : Option ℕ
  pub line : IsLineAt options maps index item contradiction text
  pub noted : NotesIf contradiction (map_of_item maps item) old new

-- The same of a part of the item with this index.
pub record ShowsPart (options : RowOptions) (maps : TableMaps) (index number : ℕ) (part : Part) (old new : Contradictions) (text : List ℕ) : Type 0 where
  pub contradiction : Option ℕ
  pub line : IsPartLineAt options maps index number part contradiction text
  pub noted : NotesIf contradiction (map_of_part maps part) old new

-- The same as the column of the table with these names.
abbrev pub own_column : Option TableMapEvent → (schema table : List ℕ) → (contradiction : Option ℕ) → Option ℕ
own_column None schema table contradiction = None
own_column (Some map) schema table contradiction = if bytes_eq (schema_in map) schema && bytes_eq (table_in map) table then contradiction else None

-- Which column of the table with these names contradicts the files in the first of these items in which one does; None if in none of
-- them one does. The first item has this index, and `maps` are the table maps in force before it.
abbrev pub IsFirstIn : RowOptions → (maps : TableMaps) (index : ℕ) (items : List (Result EventView Error)) (schema table : List ℕ) (found : Option ℕ) → Type 0
IsFirstIn options maps index [] schema table found = found ≡ None
IsFirstIn options maps index (item ∷ items) schema table found =
    (line : List ℕ) × (contradiction : Option ℕ) × IsLineAt options (maps_behind maps item) index item contradiction line
    × (others : Option ℕ) × IsFirstIn options (maps_behind maps item) (index + 1) items schema table others
    × (found ≡ option_or (own_column (map_of_item (maps_behind maps item) item) schema table contradiction) others)
