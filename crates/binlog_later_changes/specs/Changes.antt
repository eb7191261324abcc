-- What is known behind events.
use Rattle.std.specs.Prelude.{◌≡◌, List, []}
use Rattle.binlog_later_changes.specs.Later.{Look, Change}
use Rattle.binlog_later_changes.specs.RowsLeft.{left_of, nothing_left}
use Rattle.binlog_later_changes.specs.Tables.{found_in, Holds}
use Rattle.binlog_later_changes.specs.declared.later_changes.LaterChanges.{LaterChanges}

abbrev pub changes_found : LaterChanges → List Change
changes_found changes = found_in changes.tables

-- No event yet.
pub record IsNew (changes : LaterChanges) : Type 0 where
  pub tables : Holds [] changes.tables
  pub rows : left_of changes.rows ≡ nothing_left
