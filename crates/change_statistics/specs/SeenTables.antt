-- The tables of a transaction, as contracts see them.
use Rattle.std.specs.Prelude.{Bool, List, map}
use Rattle.change_statistics.specs.Facts.{Name}
use Rattle.change_statistics.specs.Names.{name_of}
use Rattle.change_statistics.specs.declared.event_counts.EventCounts.{EventCounts}
use Rattle.change_statistics.specs.declared.table_name.TableName.{TableName}

-- The counts by table, in the order of their first row events; and whether an event had rows of one table more than there was room for.
pub record SeenTables : Type 0 where
  pub entries : List (Name × EventCounts)
  pub is_full : Bool

abbrev pub named_entry : TableName × EventCounts → Name × EventCounts
named_entry entry = (name_of entry.0, entry.1)

abbrev pub named_entries : List (TableName × EventCounts) → List (Name × EventCounts)
named_entries entries = map named_entry entries
