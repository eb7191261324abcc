-- Types of columns, as a server spells them.
use Rattle.std.specs.Prelude.{ℕ, ◌==◌, ◌||◌, Bool, not, List, [], ◌∷◌, take, drop, Option, None, option_map, if◌then◌else◌}
use Rattle.std.specs.List.{prefix_len}
use Rattle.std.specs.Option.{option_and_then}
use Rattle.column_files.specs.SimpleTypes.{simple_type}
use Rattle.column_files.specs.TypeEndings.{ending_of}
use Rattle.column_files.specs.TypeMembers.{members_in, texts_of}
use Rattle.column_files.specs.TypeNumbers.{numbers_at}
use Rattle.column_files.specs.TypeWords.{word_named}
use Rattle.column_files.specs.declared.declared_type.DeclaredType.{DeclaredType}
use Rattle.column_files.specs.declared.declared_type.DeclaredType.TheVariants.{Simple, Enum, Set}
use Rattle.column_files.specs.declared.simple_type.SimpleType.{SimpleType}
use Rattle.column_files.specs.declared.type_word.Word.{Word}
use Rattle.column_files.specs.declared.type_word.Word.TheVariants as words

-- A type, with the texts of its members.
pub data Declared : Type 0 where
  simple : SimpleType → Declared
  enumeration : List (List ℕ) → Declared
  several : List (List ℕ) → Declared

abbrev pub type_of : DeclaredType → Declared
type_of (Simple found) = simple found
type_of (Enum members) = enumeration (texts_of members.items)
type_of (Set members) = several (texts_of members.items)

-- The byte is neither a parenthesis nor a space, before which the word of a type ends.
abbrev pub is_in_word : ℕ → Bool
is_in_word b = not ((b == 40) || (b == 32))

-- The members whose list this is, in parentheses.
abbrev pub members_behind : List ℕ → Option (List (List ℕ))
members_behind [] = None
members_behind (b ∷ s) = if b == 40 then members_in s else None

-- The type without members with this word and with this behind it: numbers, and an ending.
abbrev pub simple_behind : Word → List ℕ → Option SimpleType
simple_behind word s = option_and_then (λ found. option_and_then (λ ending. simple_type word found.0 ending) (ending_of found.1)) (numbers_at s)

-- The type with this word and with this behind it.
abbrev pub typed : Word → List ℕ → Option Declared
typed words.Enum s = option_map (λ members. enumeration members) (members_behind s)
typed words.Set s = option_map (λ members. several members) (members_behind s)
typed word s = option_map (λ found. simple found) (simple_behind word s)

-- The word at the start, and what is behind it.
abbrev pub word_at : List ℕ → Option (Word × List ℕ)
word_at s = let k = prefix_len is_in_word s in option_map (λ word. (word, drop k s)) (word_named (take k s))

-- The type that a text is; None if it is the text of none.
abbrev pub type_in : List ℕ → Option Declared
type_in s = option_and_then (λ found. typed found.0 found.1) (word_at s)
