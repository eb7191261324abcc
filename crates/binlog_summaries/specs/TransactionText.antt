-- The text of statistics by transaction.
use Rattle.std.specs.Prelude.{◌≡◌, ℕ, ◌+◌, ◌/◌, ◌^◌, ◌==◌, List, [], ◌∷◌, ◌++◌, flat_map, codes, decimal, Option, Some, None, if◌then◌else◌}
use Rattle.binlog_summaries.specs.StatsText.{number_line}
use Rattle.change_statistics.specs.Facts.{Name}
use Rattle.change_statistics.specs.Transactions.{Seen, duration_of}
use Rattle.change_statistics.specs.declared.event_counts.EventCounts.{EventCounts}
use Rattle.change_statistics.specs.declared.transaction.Transaction.{Transaction}
use Rattle.change_statistics.specs.NameTexts.{name_text}
use Rattle.binlog_summaries.specs.TableText.{IsTimeOf}

-- The smallest number with so many binary digits.
abbrev pub smallest_of : (class : ℕ) → ℕ
smallest_of class = (2 ^ class) / 2

-- The line of a class of sizes, of which this is the smallest.
abbrev pub class_line : (smallest count : ℕ) → List ℕ
class_line smallest count = codes "size " ++ decimal smallest ++ codes " " ++ decimal count ++ codes " transactions\n"

-- The line of a class of sizes, and nothing if no transaction has one of them.
abbrev pub size_line : (class count : ℕ) → List ℕ
size_line class count = if count == 0 then [] else class_line (smallest_of class) count

-- The lines of classes of sizes, from one on.
abbrev pub size_lines : (class : ℕ) → List ℕ → List ℕ
size_lines class [] = []
size_lines class (count ∷ counts) = size_line class count ++ size_lines (class + 1) counts

-- A number, and a question mark for none.
abbrev pub number_text : Option ℕ → List ℕ
number_text None = codes "?"
number_text (Some number) = decimal number

-- Where a transaction begins and ends.
abbrev pub places_text : Transaction → List ℕ
places_text transaction = codes "transaction " ++ number_text transaction.begin_position ++ codes " to " ++ decimal transaction.end_position ++ codes " "

-- A GTID, and nothing for none.
abbrev pub gtid_text : List ℕ → List ℕ
gtid_text [] = []
gtid_text (b ∷ text) = codes "gtid " ++ (b ∷ text) ++ codes " "

-- The counts of a transaction.
abbrev pub counts_text : EventCounts → List ℕ
counts_text counts =
    decimal counts.events ++ codes " events " ++ decimal counts.bytes ++ codes " bytes " ++ decimal counts.inserted ++ codes " inserted " ++ decimal counts.updated ++ codes " updated "
    ++ decimal counts.deleted ++ codes " deleted " ++ decimal counts.unread_events ++ codes " unread"

-- How long a transaction lasts, and the end of its line.
abbrev pub duration_text : Option ℕ → List ℕ
duration_text duration = codes " " ++ number_text duration ++ codes " seconds\n"

-- The line of a transaction: where it begins and ends, its GTID, its counts, the times of its first and its last event, and the seconds
-- between them.
pub record IsTransactionLine (transaction : Transaction) (text : List ℕ) : Type 0 where
  pub first : List ℕ
  pub is_first : IsTimeOf (codes " first ") (Some transaction.first_time) first
  pub last : List ℕ
  pub is_last : IsTimeOf (codes " last ") (Some transaction.last_time) last
  pub is : text ≡ places_text transaction ++ gtid_text transaction.gtid ++ counts_text transaction.counts ++ first ++ last ++ duration_text (duration_of transaction)

-- The names of a table of a transaction.
abbrev pub table_names : Name → List ℕ
table_names name = codes "  table " ++ name_text name.database ++ codes "." ++ name_text name.table ++ codes " "

-- The line of a table of a transaction: its names, and the counts of its row events.
abbrev pub table_line : Name × EventCounts → List ℕ
table_line entry = table_names entry.0 ++ counts_text entry.1 ++ codes "\n"

-- The line of a transaction, above those of its tables.
abbrev pub IsTransactionText : Transaction → List ℕ → Type 0
IsTransactionText transaction text = (line : List ℕ) × IsTransactionLine transaction line × (text ≡ line ++ flat_map table_line transaction.tables.entries)

-- The lines of transactions one after another.
abbrev pub AreTransactionTexts : List Transaction → List ℕ → Type 0
AreTransactionTexts [] text = text ≡ []
AreTransactionTexts (transaction ∷ transactions) text =
    (one rest : List ℕ) × IsTransactionText transaction one × AreTransactionTexts transactions rest × (text ≡ one ++ rest)

-- The whole text: the number of the transactions, their sizes, and the largest, each above its tables.
abbrev pub IsTransactionsText : Seen → List ℕ → Type 0
IsTransactionsText seen text =
    (lines : List ℕ) × AreTransactionTexts seen.kept lines × (text ≡ number_line (codes "transactions") seen.transactions ++ size_lines 0 seen.sizes ++ lines)
