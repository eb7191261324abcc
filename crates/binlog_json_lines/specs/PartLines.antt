-- The lines of compressed transactions: that of the event with the payload, and those of the events inside.
use Rattle.std.specs.Prelude.{◌≡◌, ◌⊎◌, ℕ, List, ◌++◌, codes, Option, None, Ok, Err}
use Rattle.std.specs.Io.KnownBytes.{Appends}
use Rattle.json.specs.Print.{print}
use Rattle.json.specs.Token.{Token}
use Rattle.json_line.specs.Tokens.{number_value, member, object}
use Rattle.binlog_wire.specs.declared.error.Error.{Error}
use Rattle.binlog_wire.specs.declared.error.Error.TheVariants.{Memory, Writer}
use Rattle.binlog_ends.specs.Counts.{AppendsFront}
use Rattle.binlog_events.specs.Events.{EventView}
use Rattle.binlog_file.specs.TableMapsInForce.{TableMaps}
use Rattle.binlog_rows.specs.declared.table_map_event.TableMapEvent.{TableMapEvent}
use Rattle.binlog_payloads.specs.declared.error.PayloadError.{PayloadError}
use Rattle.binlog_payload_visits.specs.Parts.{Part}
use Rattle.binlog_json_lines.specs.ItemLines.{event_fields}
use Rattle.binlog_json_lines.specs.Lines.{map_of_event}
use Rattle.binlog_json_lines.specs.Options.{RowOptions}
use Rattle.binlog_json_lines.specs.PayloadRefusals.{refusal_members}
use Rattle.binlog_json_lines.specs.RowsAndData.{AreRowsAndData}

-- ---- the events inside

-- The index of the event with the payload, and the number of the part.
abbrev pub place_members : ℕ → ℕ → List Token
place_members index number = member (codes "index") (number_value index) ++ member (codes "part") (number_value number)

-- The members of the object of an event inside before its data, but those of its rows.
abbrev pub part_head : ℕ → ℕ → EventView → List Token
part_head index number event = place_members index number ++ event_fields event

-- The tokens are the object of an event inside. A row event has the members of its rows before its data, by this table map, as outside.
-- `contradiction` is the column of its table that contradicts the files of columns.
pub record IsPartObject (options : RowOptions) (map : Option TableMapEvent) (index number : ℕ) (event : EventView) (contradiction : Option ℕ) (tokens : List Token) : Type 0 where
  pub members : List Token
  pub are : AreRowsAndData options map event contradiction members
  pub is : tokens ≡ object (part_head index number event ++ members)

-- The text is the line of an event inside.
pub record IsPartEventLine (options : RowOptions) (map : Option TableMapEvent) (index number : ℕ) (event : EventView) (contradiction : Option ℕ) (text : List ℕ) : Type 0 where
  pub tokens : List Token
  pub are : IsPartObject options map index number event contradiction tokens
  pub is : text ≡ print tokens ++ codes "\n"

-- The object of an error in the place of an event inside, or of all.
abbrev pub part_error_object : ℕ → ℕ → PayloadError → List Token
part_error_object index number error = object (place_members index number ++ refusal_members error)

-- The text is the line of a part, with these table maps in force behind it.
abbrev pub IsPartLineAt : RowOptions → TableMaps → ℕ → ℕ → Part → (contradiction : Option ℕ) → List ℕ → Type 0
IsPartLineAt options maps index number (Ok event) contradiction text = IsPartEventLine options (map_of_event maps event) index number event contradiction text
IsPartLineAt options maps index number (Err error) contradiction text = (contradiction ≡ None) × (text ≡ print (part_error_object index number error) ++ codes "\n")

abbrev pub IsPartLineIn : RowOptions → TableMaps → ℕ → ℕ → Part → List ℕ → Type 0
IsPartLineIn options maps index number part text = (contradiction : Option ℕ) × IsPartLineAt options maps index number part contradiction text

-- The table map of the rows of a part.
abbrev pub map_of_part : TableMaps → Part → Option TableMapEvent
map_of_part maps (Ok event) = map_of_event maps event
map_of_part maps (Err error) = None

-- The line of the part is written.
pub record WritesPartLine (options : RowOptions) (maps : TableMaps) (index number : ℕ) (part : Part) (contradiction : Option ℕ) (old new : Option (List ℕ)) : Type 0 where
  pub text : List ℕ
  pub line : IsPartLineAt options maps index number part contradiction text
  pub written : Appends old new text

-- A prefix of the line of the part is written.
pub record WritesPartFront (options : RowOptions) (maps : TableMaps) (index number : ℕ) (part : Part) (old new : Option (List ℕ)) : Type 0 where
  pub text : List ℕ
  pub line : IsPartLineIn options maps index number part text
  pub written : AppendsFront old new text

-- The line isn't written whole: the writer failed, or an allocation for the line.
abbrev pub WritesNoPartLine : RowOptions → TableMaps → ℕ → ℕ → Part → Option (List ℕ) → Error → Option (List ℕ) → Type 0
WritesNoPartLine options maps index number part old error new =
    ((error ≡ Writer) × WritesPartFront options maps index number part old new) ⊎ ((error ≡ Memory) × (new ≡ old))
