-- What a table map states of a column, besides its type.
use Rattle.std.specs.Prelude.{ℕ, Bool, true, false, List, Option, Some, map, option_map}
use Rattle.std.specs.Borrow.{Bor}
use Rattle.character_sets.specs.declared.character_set.CharacterSet.{CharacterSet}
use Rattle.character_sets.specs.declared.character_set.CharacterSet.TheVariants.{Binary}
use Rattle.binlog_optional_metadata.specs.declared.column_facts.ColumnFacts.{ColumnFacts}

-- The character set is stated, and is `binary`.
abbrev pub is_binary : Option CharacterSet → Bool
is_binary (Some Binary) = true
is_binary _ = false

-- The name, if it is stated; that the column is UNSIGNED; the character set, if it is stated; the length to which its values are
-- padded with zeros; and the members of an ENUM or a SET, if they are stated.
pub record Facts : Type 0 where
  pub name : Option (List ℕ)
  pub is_unsigned : Bool
  pub character_set : Option CharacterSet
  pub padded_length : ℕ
  pub members : Option (List (List ℕ))

-- The bytes of members.
abbrev pub texts_of : List (Bor (List ℕ)) → List (List ℕ)
texts_of texts = map (λ text. text.now) texts

abbrev pub facts_of : ColumnFacts → Facts
facts_of facts = record {
  name = option_map (λ text. text.now) facts.name;
  is_unsigned = facts.is_unsigned;
  character_set = facts.character_set;
  padded_length = facts.padded_length;
  members = option_map (λ members. texts_of members.items) facts.members;
}
