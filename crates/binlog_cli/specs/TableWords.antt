-- The tables that the options of a command name.
use Rattle.std.specs.Prelude.{◌≡◌, ◌≢◌, ◌⊎◌, ℕ, ◌==◌, ◌<◌, Bool, List, [], ◌∷◌, length, map, slice_index_or, Option, Some, None, option_map, unwrap_or}
use Rattle.std.specs.List.{position_or_len, before_first, after_first}
use Rattle.clap.specs.Matches.{matched_of, raw_values}
use Rattle.clap.specs.declared.parser.matches.Found.{Found}
use Rattle.binlog_filters.specs.declared.pattern.Pattern.{Pattern}
use Rattle.binlog_filters.specs.declared.tables.TableFilter.{TableFilter}
use Rattle.binlog_filters.specs.declared.tables.TablePattern.{TablePattern}

-- The texts that are given for an option, in order.
abbrev pub texts_given : Found → (option : List ℕ) → List (List ℕ)
texts_given found option = unwrap_or (option_map raw_values (matched_of found option)) []

abbrev pub is_dot : ℕ → Bool
is_dot byte = byte == 46

-- The text is a name, a dot and another name. The first name has no dot, and neither is empty.
pub record IsTable (text database table : List ℕ) : Type 0 where
  pub has_dot : position_or_len is_dot text < length text
  pub before : database ≡ before_first is_dot text
  pub behind : table ≡ after_first is_dot text
  pub database_named : database ≢ []
  pub table_named : table ≢ []

abbrev pub IsNoTable : List ℕ → Type 0
IsNoTable text = (database table : List ℕ) → IsTable text database table → ⊥

-- One of the texts names no table.
abbrev pub HasNoTable : List (List ℕ) → Type 0
HasNoTable texts = (place : ℕ) × (place < length texts) × IsNoTable (slice_index_or texts place [])

-- These are the patterns of the texts, in order.
abbrev pub ArePatterns : List (List ℕ) → List Pattern → Type 0
ArePatterns texts patterns = map (λ (pattern : Pattern). pattern.bytes.items) patterns ≡ texts

abbrev pub AreTables : List (List ℕ) → List TablePattern → Type 0
AreTables [] [] = Unit {0}
AreTables (text ∷ texts) (pattern ∷ patterns) = IsTable text pattern.database.bytes.items pattern.table.bytes.items × AreTables texts patterns
AreTables texts patterns = ⊥

-- The filter has the patterns of tables and of databases that are given; there is none if none are given.
abbrev pub StatesTables : (tables databases : List (List ℕ)) → Option TableFilter → Type 0
StatesTables tables databases None = (tables ≡ []) × (databases ≡ [])
StatesTables tables databases (Some filter) =
    ((tables ≢ []) ⊎ (databases ≢ [])) × AreTables tables filter.tables.items × ArePatterns databases filter.databases.items
