-- The lines of JSON of statistics by transaction.
use Rattle.std.specs.Prelude.{ℕ, List, [], ◌∷◌, ◌++◌, flat_map, codes, Option}
use Rattle.json.specs.Token.{Token, string, null, begin_array, end_array}
use Rattle.json_line.specs.Tokens.{number_value, text_value, or_null, member, object, array}
use Rattle.change_statistics.specs.Facts.{Name}
use Rattle.change_statistics.specs.Transactions.{Seen, duration_of}
use Rattle.change_statistics.specs.declared.event_counts.EventCounts.{EventCounts}
use Rattle.change_statistics.specs.declared.transaction.Transaction.{Transaction}
use Rattle.binlog_summaries.specs.JsonLines.{number_member, time_member, line_of}

-- The GTID of a transaction, or null if it has none.
abbrev pub gtid_value : List ℕ → List Token
gtid_value [] = null ∷ []
gtid_value (b ∷ text) = string (b ∷ text) ∷ []

abbrev pub gtid_member : List ℕ → List Token
gtid_member gtid = member (codes "gtid") (gtid_value gtid)

-- The position where a transaction begins, or null.
abbrev pub position_member : Option ℕ → List Token
position_member position = member (codes "position") (or_null number_value position)

-- Where and when a transaction begins and ends, and how long it lasts.
abbrev pub places_members : Transaction → List Token
places_members transaction =
    position_member transaction.begin_position ++ number_member (codes "end_position") transaction.end_position
    ++ number_member (codes "first_time") transaction.first_time ++ number_member (codes "last_time") transaction.last_time
    ++ time_member (codes "duration") (duration_of transaction)

-- The members of the counts of a transaction.
abbrev pub counts_members : EventCounts → List Token
counts_members counts =
    number_member (codes "events") counts.events ++ number_member (codes "bytes") counts.bytes ++ number_member (codes "inserted") counts.inserted
    ++ number_member (codes "updated") counts.updated ++ number_member (codes "deleted") counts.deleted ++ number_member (codes "unread_events") counts.unread_events

-- The names of a table.
abbrev pub names_members : Name → List Token
names_members name = member (codes "database") (text_value name.database) ++ member (codes "table") (text_value name.table)

-- The object of a table of a transaction: its names, as texts or as hexadecimal digits, and the counts of its row events.
abbrev pub table_object : Name × EventCounts → List Token
table_object entry = object (names_members entry.0 ++ counts_members entry.1)

abbrev pub tables_member : List (Name × EventCounts) → List Token
tables_member entries = member (codes "tables") (array (flat_map table_object entries))

abbrev pub transaction_object : Transaction → List Token
transaction_object transaction = object (gtid_member transaction.gtid ++ places_members transaction ++ counts_members transaction.counts ++ tables_member transaction.tables.entries)

-- The numbers of transactions of each class of sizes, as an array.
abbrev pub sizes_member : List ℕ → List Token
sizes_member sizes = member (codes "sizes") (begin_array ∷ flat_map number_value sizes ++ end_array ∷ [])

-- The object above the transactions: how many there are, and of which sizes.
abbrev pub transactions_object : Seen → List Token
transactions_object seen = object (number_member (codes "transactions") seen.transactions ++ sizes_member seen.sizes)

abbrev pub transaction_line : Transaction → List ℕ
transaction_line transaction = line_of (transaction_object transaction)

-- The whole text: the largest transactions come first.
abbrev pub transactions_json : Seen → List ℕ
transactions_json seen = line_of (transactions_object seen) ++ flat_map transaction_line seen.kept
