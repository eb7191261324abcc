-- The tables, sorted by their bytes.
use Rattle.std.specs.Prelude.{◌≡◌, Bool, List, nat_lt}
use Rattle.std.specs.List.{IsDistinct}
use Rattle.std.specs.List.Sorted.{IsSortedBy, IsStableBy}
use Rattle.std.specs.Map.{keys_of}
use Rattle.change_statistics.specs.Names.{name_of, is_named}
use Rattle.change_statistics.specs.declared.table_counts.TableCounts.{TableCounts}
use Rattle.change_statistics.specs.declared.table_name.TableName.{TableName}
use Rattle.change_statistics.specs.declared.tables.TableStats.{TableStats}

-- The first table has more bytes than the other.
abbrev pub has_more_bytes : TableName × TableCounts → TableName × TableCounts → Bool
has_more_bytes entry other = nat_lt other.1.bytes entry.1.bytes

-- No table has more bytes than one before it.
abbrev pub AreSorted : List (TableName × TableCounts) → Type 0
AreSorted entries = IsSortedBy has_more_bytes entries

-- Tables with equally many bytes are in the order that they had.
abbrev pub AreInOrder : List (TableName × TableCounts) → List (TableName × TableCounts) → Type 0
AreInOrder old new = IsStableBy has_more_bytes old new

-- No table is there twice.
abbrev pub AreDistinct : List (TableName × TableCounts) → Type 0
AreDistinct entries = IsDistinct (λ (key : TableName). is_named (name_of key)) (keys_of entries)

-- All but the tables is as before.
pub record KeepsOthers (old new : TableStats) : Type 0 where
  pub transactions : new.transactions ≡ old.transactions
  pub unknown : new.unknown ≡ old.unknown
  pub is_full : new.is_full ≡ old.is_full
