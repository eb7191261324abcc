-- The lines of JSON of a log, with MariaDB's own events.
use Rattle.std.specs.Prelude.{◌≡◌, ◌⊎◌, ℕ, Bool, true, false, List, [], ◌∷◌, ◌++◌, codes, take, Option, None, Some, Result, Ok, Err}
use Rattle.std.specs.Io.KnownBytes.{Appends}
use Rattle.std.specs.Option.{option_and_then}
use Rattle.json.specs.Print.{print}
use Rattle.json.specs.Token.{Token, string}
use Rattle.json_line.specs.Tokens.{number_value, bytes_value, or_null, member, object}
use Rattle.binlog_wire.specs.declared.error.Error.{Error}
use Rattle.binlog_wire.specs.declared.error.Error.TheVariants.{Memory, Writer}
use Rattle.binlog_ends.specs.Counts.{AppendsFront}
use Rattle.binlog_event_format.specs.Headers.{header_of}
use Rattle.binlog_events.specs.Events.{EventView}
use Rattle.binlog_events.specs.Parts.{checksum_of}
use Rattle.binlog_json_lines.specs.ItemLines.{header_members, event_head, item_line}
use Rattle.binlog_consts.specs.EventTypes.{event_type_of}
use Rattle.binlog_rows.specs.declared.table_map_event.TableMapEvent.{TableMapEvent}
use Rattle.binlog_json_lines.specs.Options.{RowOptions}
use Rattle.binlog_json_lines.specs.PayloadLines.{payload_line}
use Rattle.binlog_payloads.specs.Events.{payload_in}
use Rattle.binlog_payloads.specs.Fields.{Payload}
use Rattle.binlog_payloads.specs.declared.error.PayloadError.{PayloadError}
use Rattle.binlog_json_lines.specs.RowsAndData.{AreRowsAndData}
use Rattle.binlog_filters.specs.RowEvents.{is_of_rows, table_id_of}
use Rattle.binlog_file.specs.TableMapsInForce.{TableMaps}
use Rattle.binlog_mariadb.specs.EventTypes.{maria_event_number, maria_event_type_of}
use Rattle.binlog_mariadb.specs.Flavour.{IsMariaVersion}
use Rattle.binlog_mariadb.specs.declared.event_type.MariaEventType.{MariaEventType}
use Rattle.binlog_mariadb.specs.declared.event_type.UnknownMariaEventType.{UnknownMariaEventType}
use Rattle.binlog_event_types.specs.MariaNames.{maria_name}
use Rattle.binlog_json_bodies.specs.MariaData.{IsEventData}

-- The event is of a log that MariaDB wrote, by the server version of the description in force.
abbrev pub IsOfMaria : EventView → Type 0
IsOfMaria event = IsMariaVersion (take 50 event.fde.server_version)

-- The event isn't one of MariaDB's own in a log that MariaDB wrote.
abbrev pub IsOther : EventView → Type 0
IsOther event = (type : MariaEventType) → maria_event_type_of (header_of event.frame).event_type ≡ Ok type → IsOfMaria event → ⊥

-- The number and the name of the event's type.
abbrev pub type_members : MariaEventType → List Token
type_members type = member (codes "type") (number_value (maria_event_number type)) ++ member (codes "name") (string (maria_name type) ∷ [])

-- The members before the data.
abbrev pub head_members : ℕ → EventView → MariaEventType → List Token
head_members index event type =
    member (codes "index") (number_value index)
    ++ type_members type
    ++ header_members (header_of event.frame)
    ++ member (codes "checksum") (or_null bytes_value (checksum_of event.fde.footer event.frame))

-- The tokens are the object of an event of this type.
pub record IsEventObject (index : ℕ) (event : EventView) (type : MariaEventType) (tokens : List Token) : Type 0 where
  pub content : List Token
  pub read : IsEventData event type content
  pub is : tokens ≡ object (head_members index event type ++ member (codes "data") content)

-- The text is the line of an event of this type: its object, and a line feed.
pub record IsOwnLine (index : ℕ) (event : EventView) (type : MariaEventType) (text : List ℕ) : Type 0 where
  pub tokens : List Token
  pub are : IsEventObject index event type tokens
  pub is : text ≡ print tokens ++ codes "\n"

-- The text is the line of an event, by its type.
abbrev pub IsEventLine : ℕ → EventView → Result MariaEventType UnknownMariaEventType → List ℕ → Type 0
IsEventLine index event (Ok type) text = (IsOfMaria event × IsOwnLine index event type text) ⊎ ((IsOfMaria event → ⊥) × (text ≡ item_line index (Ok event)))
IsEventLine index event (Err unknown) text = text ≡ item_line index (Ok event)

-- The text is the line of an item.
abbrev pub IsLine : ℕ → Result EventView Error → List ℕ → Type 0
IsLine index (Ok event) text = IsEventLine index event (maria_event_type_of (header_of event.frame).event_type) text
IsLine index (Err error) text = text ≡ item_line index (Err error)

-- The tokens are the object of a row event with its rows, by this table map: the members of its rows are before its data. In this and in
-- the relations below, `contradiction` is the column of the event's table that contradicts the files of columns.
pub record IsRowsObject (options : RowOptions) (map : Option TableMapEvent) (index : ℕ) (event : EventView) (contradiction : Option ℕ) (tokens : List Token) : Type 0 where
  pub members : List Token
  pub are : AreRowsAndData options map event contradiction members
  pub is : tokens ≡ object (event_head index event ++ members)

-- The text is the line of a row event with its rows.
pub record IsRowsLine (options : RowOptions) (map : Option TableMapEvent) (index : ℕ) (event : EventView) (contradiction : Option ℕ) (text : List ℕ) : Type 0 where
  pub tokens : List Token
  pub are : IsRowsObject options map index event contradiction tokens
  pub is : text ≡ print tokens ++ codes "\n"

-- The text is the line of an event that is no row event, by what its data say of a payload.
abbrev pub IsLineWithoutRows : (keeps_stored : Bool) → ℕ → EventView → Result (Option Payload) PayloadError → List ℕ → Type 0
IsLineWithoutRows keeps_stored index event (Ok (Some payload)) text = text ≡ payload_line keeps_stored index event payload
IsLineWithoutRows keeps_stored index event none text = IsLine index (Ok event) text

-- The text is the line of an event, where a row event has its rows.
abbrev pub IsLineOf : (is_row_event : Bool) → RowOptions → Option TableMapEvent → ℕ → EventView → (contradiction : Option ℕ) → List ℕ → Type 0
IsLineOf true options map index event contradiction text = IsRowsLine options map index event contradiction text
IsLineOf false options map index event contradiction text = (contradiction ≡ None) × IsLineWithoutRows options.keeps_stored index event (payload_in event) text

abbrev pub IsLineWith : RowOptions → Option TableMapEvent → ℕ → EventView → (contradiction : Option ℕ) → List ℕ → Type 0
IsLineWith options map index event contradiction text = IsLineOf (is_of_rows (event_type_of (header_of event.frame).event_type)) options map index event contradiction text

-- The table map in force for the table id of a row event.
abbrev pub map_of_event : TableMaps → EventView → Option TableMapEvent
map_of_event maps event = option_and_then maps (table_id_of event)

-- The text is the line of an item, where a row event has its rows and these table maps are in force behind the item.
abbrev pub IsLineAt : RowOptions → TableMaps → ℕ → Result EventView Error → (contradiction : Option ℕ) → List ℕ → Type 0
IsLineAt options maps index (Ok event) contradiction text = IsLineWith options (map_of_event maps event) index event contradiction text
IsLineAt options maps index (Err error) contradiction text = (contradiction ≡ None) × IsLine index (Err error) text

abbrev pub IsLineIn : RowOptions → TableMaps → ℕ → Result EventView Error → List ℕ → Type 0
IsLineIn options maps index item text = (contradiction : Option ℕ) × IsLineAt options maps index item contradiction text

-- The line of the item is written.
pub record WritesLine (options : RowOptions) (maps : TableMaps) (index : ℕ) (item : Result EventView Error) (contradiction : Option ℕ) (old new : Option (List ℕ)) : Type 0 where
  pub text : List ℕ
  pub line : IsLineAt options maps index item contradiction text
  pub written : Appends old new text

-- A prefix of the line of the item is written.
pub record WritesFront (options : RowOptions) (maps : TableMaps) (index : ℕ) (item : Result EventView Error) (old new : Option (List ℕ)) : Type 0 where
  pub text : List ℕ
  pub line : IsLineIn options maps index item text
  pub written : AppendsFront old new text

-- The line isn't written whole: the writer failed, or an allocation for the line.
abbrev pub WritesNoLine : RowOptions → TableMaps → ℕ → Result EventView Error → Option (List ℕ) → Error → Option (List ℕ) → Type 0
WritesNoLine options maps index item old error new = ((error ≡ Writer) × WritesFront options maps index item old new) ⊎ ((error ≡ Memory) × (new ≡ old))
