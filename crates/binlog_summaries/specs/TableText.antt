-- The text of statistics by table.
use Rattle.std.specs.Prelude.{◌≡◌, ℕ, List, [], ◌∷◌, ◌++◌, length, codes, decimal, Option, Some, None}
use Rattle.binlog_summaries.specs.StatsText.{IsTime, number_line}
use Rattle.change_statistics.specs.declared.table_counts.TableCounts.{TableCounts}
use Rattle.change_statistics.specs.declared.table_counts.UnknownRows.{UnknownRows}
use Rattle.change_statistics.specs.declared.table_name.TableName.{TableName}
use Rattle.change_statistics.specs.declared.tables.TableStats.{TableStats}
use Rattle.change_statistics.specs.NameTexts.{names_text}
use Rattle.binlog_summaries.specs.Shown.{shown}

-- A time behind what introduces it, and nothing for none.
abbrev pub IsTimeOf : (word : List ℕ) → Option ℕ → List ℕ → Type 0
IsTimeOf word None text = text ≡ []
IsTimeOf word (Some seconds) text = (time : List ℕ) × IsTime seconds time × (text ≡ word ++ time)

-- The counts of a table.
abbrev pub counts_text : TableCounts → List ℕ
counts_text counts =
    decimal counts.events ++ codes " events " ++ decimal counts.bytes ++ codes " bytes " ++ decimal counts.inserted ++ codes " inserted " ++ decimal counts.updated ++ codes " updated "
    ++ decimal counts.deleted ++ codes " deleted " ++ decimal counts.unread_events ++ codes " unread " ++ decimal counts.transactions ++ codes " transactions"

-- The line of a table: its name, its counts, and the times of its first and its last row event.
pub record IsTableLine (entry : TableName × TableCounts) (text : List ℕ) : Type 0 where
  pub first : List ℕ
  pub is_first : IsTimeOf (codes " first ") entry.1.first_time first
  pub last : List ℕ
  pub is_last : IsTimeOf (codes " last ") entry.1.last_time last
  pub is : text ≡ names_text entry.0 ++ counts_text entry.1 ++ first ++ last ++ codes "\n"

-- The lines of tables one after another.
abbrev pub AreTableLines : List (TableName × TableCounts) → List ℕ → Type 0
AreTableLines [] text = text ≡ []
AreTableLines (entry ∷ entries) text = (line rest : List ℕ) × IsTableLine entry line × AreTableLines entries rest × (text ≡ line ++ rest)

-- The line of the events that may have rows of tables that aren't known.
abbrev pub unknown_line : UnknownRows → List ℕ
unknown_line unknown = codes "unknown " ++ decimal unknown.events ++ codes " events " ++ decimal unknown.bytes ++ codes " bytes\n"

-- The lines above the tables: their number, that of the transactions, and the events of no known table.
abbrev pub tables_head : TableStats → List ℕ
tables_head stats = number_line (codes "tables") (length stats.tables.entries) ++ number_line (codes "transactions") stats.transactions ++ unknown_line stats.unknown

-- The whole text, with as many tables as are asked for, in the order of the statistics.
abbrev pub IsTablesText : (top : Option ℕ) → TableStats → List ℕ → Type 0
IsTablesText top stats text = (lines : List ℕ) × AreTableLines (shown top stats.tables.entries) lines × (text ≡ tables_head stats ++ lines)
