-- What stands behind the word and the parentheses of a type.
use Rattle.std.specs.Prelude.{ℕ, List, Option, codes, find, bytes_eq}
use Rattle.column_files.specs.declared.type_ending.Ending.{Ending}
use Rattle.column_files.specs.declared.type_ending.Ending.TheVariants.{Nothing, Unsigned, UnsignedZerofill, Compressed, Old, OldBinary}
use Rattle.column_files.specs.declared.type_ending.TheConstants.{ENDINGS}

-- An ending as a server spells it.
unfoldable pub text_of : Ending → List ℕ
text_of Nothing = codes ""
text_of Unsigned = codes " unsigned"
text_of UnsignedZerofill = codes " unsigned zerofill"
text_of Compressed = codes " /*M!100301 COMPRESSED*/"
text_of Old = codes " /* mariadb-5.3 */"
text_of OldBinary = codes " /* 5.5 binary format */"

-- All endings.
unfoldable pub all_endings : List Ending
all_endings = ENDINGS

-- The ending that is this text.
abbrev pub ending_of : List ℕ → Option Ending
ending_of text = find (λ ending. bytes_eq (text_of ending) text) all_endings
