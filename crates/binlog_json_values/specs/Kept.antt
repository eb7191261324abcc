-- What is known of the columns of a table, in memory of its own.
use Rattle.std.specs.Prelude.{◌≡◌, ℕ, List, Some, map, option_map, slice_get}
use Rattle.std.specs.String.{string_bytes}
use Rattle.json.specs.Token.{Token}
use Rattle.binlog_optional_metadata.specs.Facts.{Facts}
use Rattle.binlog_json_values.specs.Keys.{IsPrinted}
use Rattle.binlog_json_values.specs.Rows.{column_name}
use Rattle.binlog_json_values.specs.declared.owned_facts.OwnedFacts.{OwnedFacts}

-- The facts of a column.
abbrev pub facts_in : OwnedFacts → Facts
facts_in owned = record {
  name = option_map (λ name. string_bytes name) owned.name;
  is_unsigned = owned.is_unsigned;
  character_set = owned.character_set;
  padded_length = owned.padded_length;
  members = option_map (λ members. map (λ member. member.items) members.items) owned.members;
}

-- The names of columns with these facts, each printed in a line of its own.
abbrev pub AreNamed : List Facts → List (List Token) → Type 0
AreNamed columns lines = (k : ℕ) (facts : Facts) → slice_get columns k ≡ Some facts → IsPrinted lines k (column_name facts k)
