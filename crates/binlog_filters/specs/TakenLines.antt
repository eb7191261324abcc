-- The lines of the items that a filter takes.
use Rattle.std.specs.Prelude.{◌≡◌, ℕ, ◌+◌, Bool, true, false, List, [], ◌∷◌, ◌++◌, Option, Result}
use Rattle.std.specs.Io.KnownBytes.{Appends}
use Rattle.binlog_wire.specs.declared.error.Error.{Error}
use Rattle.binlog_file.specs.Events.{EventView}
use Rattle.binlog_file.specs.TableMapsInForce.{TableMaps}
use Rattle.binlog_visits.specs.TableMaps.{maps_behind}
use Rattle.binlog_filters.specs.Places.{behind}
use Rattle.binlog_filters.specs.Taking.{Takes}
use Rattle.binlog_filters.specs.declared.filter.Filter.{Filter}
use Rattle.binlog_filters.specs.declared.state.FilterState.{FilterState}

-- `is_line maps index item line` says that this is the line of an item, where `maps` are the table maps in force behind it.
module _ (is_line : TableMaps → ℕ → Result EventView Error → List ℕ → Type 0) where
  -- The text is the others, and before them the line of the item if it is taken.
  abbrev pub AddsLine : (taken : Bool) (maps : TableMaps) (index : ℕ) (item : Result EventView Error) (others text : List ℕ) → Type 0
  AddsLine true maps index item others text = (line : List ℕ) × is_line maps index item line × (text ≡ line ++ others)
  AddsLine false maps index item others text = text ≡ others

  -- The text is that of the items that are taken of items one after another: a line for each, with its index in the log. The
  -- first item has this index and begins at `position`, `was` is what is known before it, and `maps` are the
  -- table maps in force there. The items that aren't taken count, too: a table map that is left out comes into force.
  abbrev pub TakesLines : (filter : Filter) (position : Option ℕ) (was : FilterState) (maps : TableMaps) (index : ℕ) (items : List (Result EventView Error)) (text : List ℕ) → Type 0
  TakesLines filter position was maps index [] text = text ≡ []
  TakesLines filter position was maps index (item ∷ items) text =
      (now : FilterState) × (taken : Bool) × Takes filter (maps_behind maps item) position was item now taken
      × (others : List ℕ) × TakesLines filter (behind position item) now (maps_behind maps item) (index + 1) items others × AddsLine taken (maps_behind maps item) index item others text

  -- An output grew by the lines of the items that are taken.
  pub record WritesTaken (filter : Filter) (position : Option ℕ) (was : FilterState) (maps : TableMaps) (index : ℕ) (items : List (Result EventView Error)) (old new : Option (List ℕ)) : Type 0 where
    pub text : List ℕ
    pub taken : TakesLines filter position was maps index items text
    pub written : Appends old new text
