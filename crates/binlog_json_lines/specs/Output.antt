-- What an output has of the items of a log.
use Rattle.std.specs.Prelude.{◌≡◌, ◌||◌, ℕ, ◌+◌, Bool, false, List, [], ◌∷◌, ◌++◌, Option, Result, is_err}
use Rattle.std.specs.Io.KnownBytes.{Appends}
use Rattle.binlog_wire.specs.declared.error.Error.{Error}
use Rattle.binlog_events.specs.Events.{EventView}
use Rattle.binlog_file.specs.TableMapsInForce.{TableMaps}
use Rattle.binlog_visits.specs.TableMaps.{maps_behind}
use Rattle.binlog_json_lines.specs.Lines.{IsLineIn}
use Rattle.binlog_json_lines.specs.Options.{RowOptions}

-- The text is the lines of items one after another, the first with this index. `maps` are the table maps in force before it.
abbrev pub AreLines : (options : RowOptions) (maps : TableMaps) (index : ℕ) (items : List (Result EventView Error)) (text : List ℕ) → Type 0
AreLines options maps index [] text = text ≡ []
AreLines options maps index (item ∷ items) text =
    (line : List ℕ) × IsLineIn options (maps_behind maps item) index item line
    × (others : List ℕ) × AreLines options (maps_behind maps item) (index + 1) items others × (text ≡ line ++ others)

-- An item is an error in the place of an event.
abbrev pub has_errors_in : List (Result EventView Error) → Bool
has_errors_in [] = false
has_errors_in (item ∷ items) = is_err item || has_errors_in items

-- An output grew by the lines of the items.
pub record WritesLines (options : RowOptions) (maps : TableMaps) (index : ℕ) (items : List (Result EventView Error)) (old new : Option (List ℕ)) : Type 0 where
  pub text : List ℕ
  pub lines : AreLines options maps index items text
  pub written : Appends old new text
