-- What an output has of the items of a log with the events inside compressed transactions.
use Rattle.std.specs.Prelude.{◌≡◌, ◌||◌, ℕ, ◌+◌, Bool, false, List, [], ◌∷◌, ◌++◌, Option, None, Result, is_err}
use Rattle.std.specs.Option.{option_or}
use Rattle.std.specs.Io.KnownBytes.{Appends}
use Rattle.binlog_wire.specs.declared.error.Error.{Error}
use Rattle.binlog_events.specs.Events.{EventView}
use Rattle.binlog_file.specs.TableMapsInForce.{TableMaps, no_table_maps}
use Rattle.binlog_visits.specs.TableMaps.{maps_behind}
use Rattle.binlog_payload_visits.specs.Parts.{Part, AreParts, maps_behind_part}
use Rattle.binlog_json_lines.specs.Contradicted.{map_of_item, own_column}
use Rattle.binlog_json_lines.specs.Lines.{IsLineAt, IsLineIn}
use Rattle.binlog_json_lines.specs.Options.{RowOptions}
use Rattle.binlog_json_lines.specs.PartLines.{IsPartLineAt, IsPartLineIn, map_of_part}

-- The text is the lines of parts one after another, the first with this number. `maps` are the table maps in force before it.
abbrev pub ArePartLines : RowOptions → (maps : TableMaps) (index number : ℕ) (parts : List Part) (text : List ℕ) → Type 0
ArePartLines options maps index number [] text = text ≡ []
ArePartLines options maps index number (part ∷ parts) text =
    (line : List ℕ) × IsPartLineIn options (maps_behind_part maps part) index number part line
    × (others : List ℕ) × ArePartLines options (maps_behind_part maps part) index (number + 1) parts others × (text ≡ line ++ others)

-- The text is the line of an item, and then the lines of its parts. Contents of more than `limit` bytes are refused.
pub record IsTextIn (limit : ℕ) (options : RowOptions) (maps : TableMaps) (index : ℕ) (item : Result EventView Error) (text : List ℕ) : Type 0 where
  pub own : List ℕ
  pub line : IsLineIn options maps index item own
  pub parts : List Part
  pub are : AreParts limit item parts
  pub inside : List ℕ
  pub lines : ArePartLines options no_table_maps index 0 parts inside
  pub whole : text ≡ own ++ inside

-- The text is those of items one after another, the first with this index. `maps` are the table maps in force before it.
abbrev pub AreTexts : (limit : ℕ) (options : RowOptions) (maps : TableMaps) (index : ℕ) (items : List (Result EventView Error)) (text : List ℕ) → Type 0
AreTexts limit options maps index [] text = text ≡ []
AreTexts limit options maps index (item ∷ items) text =
    (own : List ℕ) × IsTextIn limit options (maps_behind maps item) index item own
    × (others : List ℕ) × AreTexts limit options (maps_behind maps item) (index + 1) items others × (text ≡ own ++ others)

-- An output grew by the texts of the items.
pub record WritesTexts (limit : ℕ) (options : RowOptions) (maps : TableMaps) (index : ℕ) (items : List (Result EventView Error)) (old new : Option (List ℕ)) : Type 0 where
  pub text : List ℕ
  pub texts : AreTexts limit options maps index items text
  pub written : Appends old new text

-- A part is an error.
abbrev pub has_part_errors : List Part → Bool
has_part_errors [] = false
has_part_errors (part ∷ parts) = is_err part || has_part_errors parts

-- Whether an item is an error, or a part of one.
abbrev pub HaveErrors : (limit : ℕ) (items : List (Result EventView Error)) → Bool → Type 0
HaveErrors limit [] found = found ≡ false
HaveErrors limit (item ∷ items) found =
    (parts : List Part) × AreParts limit item parts × (others : Bool) × HaveErrors limit items others × (found ≡ ((is_err item || has_part_errors parts) || others))

-- Which column of the table with these names contradicts the files in the first of these parts in which one does.
abbrev pub IsFirstInside : RowOptions → (maps : TableMaps) (index number : ℕ) (parts : List Part) (schema table : List ℕ) (found : Option ℕ) → Type 0
IsFirstInside options maps index number [] schema table found = found ≡ None
IsFirstInside options maps index number (part ∷ parts) schema table found =
    (line : List ℕ) × (contradiction : Option ℕ) × IsPartLineAt options (maps_behind_part maps part) index number part contradiction line
    × (others : Option ℕ) × IsFirstInside options (maps_behind_part maps part) index (number + 1) parts schema table others
    × (found ≡ option_or (own_column (map_of_part (maps_behind_part maps part) part) schema table contradiction) others)

-- The same in the first of these items and parts. The first item has this index, and `maps` are the table maps in force before it.
abbrev pub IsFirstOfAll : (limit : ℕ) → RowOptions → (maps : TableMaps) (index : ℕ) (items : List (Result EventView Error)) (schema table : List ℕ) (found : Option ℕ) → Type 0
IsFirstOfAll limit options maps index [] schema table found = found ≡ None
IsFirstOfAll limit options maps index (item ∷ items) schema table found =
    (line : List ℕ) × (contradiction : Option ℕ) × IsLineAt options (maps_behind maps item) index item contradiction line
    × (parts : List Part) × AreParts limit item parts × (inside : Option ℕ) × IsFirstInside options no_table_maps index 0 parts schema table inside
    × (others : Option ℕ) × IsFirstOfAll limit options (maps_behind maps item) (index + 1) items schema table others
    × (found ≡ option_or (own_column (map_of_item (maps_behind maps item) item) schema table contradiction) (option_or inside others))
