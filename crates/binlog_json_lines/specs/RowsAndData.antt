-- The members of the rows of an event, and its data behind them.
use Rattle.std.specs.Prelude.{◌≡◌, ◌||◌, ℕ, not, List, ◌++◌, Option}
use Rattle.json.specs.Token.{Token}
use Rattle.binlog_events.specs.Events.{EventView}
use Rattle.binlog_rows.specs.declared.table_map_event.TableMapEvent.{TableMapEvent}
use Rattle.binlog_json_lines.specs.ItemLines.{data_member}
use Rattle.binlog_json_lines.specs.Options.{RowOptions}
use Rattle.binlog_json_lines.specs.RowMembers.{AreMembers}
use Rattle.binlog_json_lines.specs.declared.row_members.ShownRows.{ShownRows}

-- The tokens are the members of the rows of an event, by this table map, and its data. The data has the stored rows exactly if they are
-- kept in all lines, or if not all rows are read. `contradiction` is the column of the event's table that contradicts the files of
-- columns.
pub record AreRowsAndData (options : RowOptions) (map : Option TableMapEvent) (event : EventView) (contradiction : Option ℕ) (tokens : List Token) : Type 0 where
  pub shown : ShownRows
  pub rows : List Token
  pub read : AreMembers options.files event map shown rows
  pub found : contradiction ≡ shown.contradiction
  pub is : tokens ≡ rows ++ data_member (options.keeps_stored || not shown.all_read) event
