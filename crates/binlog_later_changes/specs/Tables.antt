-- What is known of tables behind events.
use Rattle.std.specs.Prelude.{◌≡◌, ℕ, Bool, true, false, List, [], ◌∷◌, ◌++◌, map, Option, Some, None, if◌then◌else◌}
use Rattle.std.specs.List.{list_any}
use Rattle.indexmap.specs.IndexMap.{get_by}
use Rattle.change_statistics.specs.Facts.{Name}
use Rattle.change_statistics.specs.Names.{name_of, name_eq, is_named}
use Rattle.binlog_later_changes.specs.Later.{Cause, table, unknown, Look, Change, undoes, undoes_some, later_from, firsts, is_about, is_behind}
use Rattle.binlog_later_changes.specs.declared.later_change.EventPlace.{EventPlace}
use Rattle.binlog_later_changes.specs.declared.later_change.LaterChange.{LaterChange}
use Rattle.binlog_later_changes.specs.declared.later_change.LaterReason.{LaterReason}
use Rattle.binlog_later_changes.specs.declared.later_change.LaterReason.TheVariants.{Table, Unknown}
use Rattle.binlog_later_changes.specs.declared.later_tables.LaterTables.{LaterTables}

abbrev pub cause_of : LaterReason → Cause
cause_of (Table name) = table (name_of name)
cause_of (Unknown reason) = unknown reason

abbrev pub change_of : LaterChange → Change
change_of change = record { event = change.event; cause = cause_of change.reason }

abbrev pub found_in : LaterTables → List Change
found_in tables = map change_of tables.found.items

-- Whether a later change of the table was found, if rows of it are undone.
abbrev pub known_of : LaterTables → Name → Option Bool
known_of tables name = get_by (is_named name) tables.tables

abbrev pub known_if : (is_undone is_found : Bool) → Option Bool
known_if true is_found = Some is_found
known_if false is_found = None

-- The same of events.
abbrev pub known_behind : List Look → Name → Option Bool
known_behind looks name = known_if (is_behind looks (table name)) (list_any (is_about (table name)) (later_from [] looks))

abbrev pub is_unknown : Cause → Bool
is_unknown (table name) = false
is_unknown (unknown reason) = true

abbrev pub is_of_any : Change → Bool
is_of_any change = is_unknown change.cause

-- What is known behind these events: of which tables rows are undone, and all first later changes.
pub record Holds (looks : List Look) (tables : LaterTables) : Type 0 where
  pub names : (name : Name) → known_of tables name ≡ known_behind looks name
  pub undone : tables.has_undone ≡ list_any undoes_some looks
  pub any : tables.has_unknown ≡ list_any is_of_any (later_from [] looks)
  pub found : found_in tables ≡ firsts (later_from [] looks)
  pub behind : (name : Name) → list_any (is_about (table name)) (later_from [] looks) ≡ true → is_behind looks (table name) ≡ true

-- Rows of the table with this name are undone, and a later change of it was found or not. All else is as before.
pub record Puts (name : Name) (is_found : Bool) (old new : LaterTables) : Type 0 where
  pub names : (second : Name) → known_of new second ≡ (if name_eq name second then Some is_found else known_of old second)
  pub undone : new.has_undone ≡ old.has_undone
  pub any : new.has_unknown ≡ old.has_unknown
  pub found : new.found.items ≡ old.found.items

-- The first later change of the table with this name is found at an event.
pub record Finds (name : Name) (event : EventPlace) (old new : LaterTables) : Type 0 where
  pub names : (second : Name) → known_of new second ≡ (if name_eq name second then Some true else known_of old second)
  pub undone : new.has_undone ≡ old.has_undone
  pub any : new.has_unknown ≡ old.has_unknown
  pub found : found_in new ≡ found_in old ++ record { event = event; cause = table name } ∷ []

-- These events follow.
abbrev pub Grows : List Look → LaterTables → LaterTables → Type 0
Grows own old new = (looks : List Look) → Holds looks old → Holds (looks ++ own) new
