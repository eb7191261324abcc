-- Counting the row events of a transaction by table, event by event.
use Rattle.std.specs.Prelude.{Bool, true, false, List, [], length, Option, Some, None, nat_lt, if◌then◌else◌}
use Rattle.std.specs.Map.{lookup}
use Rattle.indexmap.specs.IndexMap.{insert_entry}
use Rattle.change_statistics.specs.Facts.{Name, Rows, nothing, unknown, rows, Fact}
use Rattle.change_statistics.specs.Names.{name_eq}
use Rattle.change_statistics.specs.EventCounting.{no_event_counts, with_event}
use Rattle.change_statistics.specs.SeenTables.{SeenTables}
use Rattle.change_statistics.specs.Tables.{max_tables}
use Rattle.change_statistics.specs.declared.event_counts.EventCounts.{EventCounts}

-- Nothing is counted.
abbrev pub no_tables : SeenTables
no_tables = record { entries = []; is_full = false }

-- The table with this name has these counts. A new one comes last.
abbrev pub with_table : List (Name × EventCounts) → Name → EventCounts → List (Name × EventCounts)
with_table entries name counts = insert_entry name_eq entries name counts

-- The event is counted for the table with this name, which has these counts, if there is room for it.
abbrev pub with_rows_behind : Option EventCounts → SeenTables → Name → Fact → SeenTables
with_rows_behind (Some counts) old name fact = record old { entries = with_table old.entries name (with_event counts fact.size fact) }
with_rows_behind None old name fact =
    if nat_lt (length old.entries) max_tables then record old { entries = with_table old.entries name (with_event no_event_counts fact.size fact) } else record old { is_full = true }

-- The same, unless there was no room for a table before.
abbrev pub with_rows_if : Bool → SeenTables → Name → Fact → SeenTables
with_rows_if true old name fact = old
with_rows_if false old name fact = with_rows_behind (lookup (name_eq name) old.entries) old name fact

abbrev pub with_rows : SeenTables → Name → Fact → SeenTables
with_rows old name fact = with_rows_if old.is_full old name fact

abbrev pub with_change : SeenTables → Rows → Fact → SeenTables
with_change old nothing fact = old
with_change old unknown fact = old
with_change old (rows name kind count) fact = with_rows old name fact

-- The event is counted for the table of which it has rows, if it has some.
abbrev pub with_tables : SeenTables → Fact → SeenTables
with_tables old fact = with_change old fact.rows fact
