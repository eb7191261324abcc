-- The lines of JSON of statistics by table.
use Rattle.std.specs.Prelude.{ℕ, List, ◌++◌, length, flat_map, codes, Option}
use Rattle.json.specs.Token.{Token}
use Rattle.json_line.specs.Tokens.{text_value, member, object}
use Rattle.change_statistics.specs.declared.table_counts.TableCounts.{TableCounts}
use Rattle.change_statistics.specs.declared.table_name.TableName.{TableName}
use Rattle.change_statistics.specs.declared.tables.TableStats.{TableStats}
use Rattle.binlog_summaries.specs.JsonLines.{number_member, time_member, line_of}
use Rattle.binlog_summaries.specs.Shown.{shown}

-- The members of the counts of a table.
abbrev pub counts_members : TableCounts → List Token
counts_members counts =
    number_member (codes "events") counts.events ++ number_member (codes "bytes") counts.bytes ++ number_member (codes "inserted") counts.inserted
    ++ number_member (codes "updated") counts.updated ++ number_member (codes "deleted") counts.deleted ++ number_member (codes "unread_events") counts.unread_events
    ++ number_member (codes "transactions") counts.transactions ++ time_member (codes "first_time") counts.first_time ++ time_member (codes "last_time") counts.last_time

-- The object of a table: its names, as texts or as hexadecimal digits, and its counts.
abbrev pub table_object : TableName × TableCounts → List Token
table_object entry =
    object (member (codes "database") (text_value entry.0.database.items) ++ member (codes "table") (text_value entry.0.table.items) ++ counts_members entry.1)

-- The object above the tables.
abbrev pub tables_object : TableStats → List Token
tables_object stats =
    object (number_member (codes "tables") (length stats.tables.entries) ++ number_member (codes "transactions") stats.transactions
    ++ number_member (codes "unknown_events") stats.unknown.events ++ number_member (codes "unknown_bytes") stats.unknown.bytes)

-- The line of a table.
abbrev pub table_line : TableName × TableCounts → List ℕ
table_line entry = line_of (table_object entry)

-- The whole text, with as many tables as are asked for, in the order of the statistics.
abbrev pub tables_json : (top : Option ℕ) → TableStats → List ℕ
tables_json top stats = line_of (tables_object stats) ++ flat_map table_line (shown top stats.tables.entries)
