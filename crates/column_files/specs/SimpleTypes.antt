-- Types without members: what may stand behind each word.
use Rattle.std.specs.Prelude.{ℕ, ◌==◌, ◌||◌, Bool, true, false, Option, Some, None, option_map, if◌then◌else◌}
use Rattle.column_files.specs.declared.simple_type.IntegerSize.{IntegerSize}
use Rattle.column_files.specs.declared.simple_type.IntegerSize.TheVariants as integers
use Rattle.column_files.specs.declared.simple_type.TemporalKind.{TemporalKind}
use Rattle.column_files.specs.declared.simple_type.TemporalKind.TheVariants as times
use Rattle.column_files.specs.declared.simple_type.LengthSize.{LengthSize}
use Rattle.column_files.specs.declared.simple_type.LengthSize.TheVariants as sizes
use Rattle.column_files.specs.declared.simple_type.SimpleType.{SimpleType}
use Rattle.column_files.specs.declared.simple_type.SimpleType.TheVariants as types
use Rattle.column_files.specs.declared.type_ending.Ending.{Ending}
use Rattle.column_files.specs.declared.type_ending.Ending.TheVariants.{Nothing, Unsigned, UnsignedZerofill, Compressed, Old, OldBinary}
use Rattle.column_files.specs.declared.type_numbers.Numbers.{Numbers}
use Rattle.column_files.specs.declared.type_numbers.Numbers.TheVariants as numbers
use Rattle.column_files.specs.declared.type_word.Word.{Word}
use Rattle.column_files.specs.declared.type_word.Word.TheVariants as words

-- ---- endings

-- Whether the ending states a number without sign; None if it isn't that of a number.
abbrev pub unsigned_in : Ending → Option Bool
unsigned_in Nothing = Some false
unsigned_in Unsigned = Some true
unsigned_in UnsignedZerofill = Some true
unsigned_in _ = None

-- Whether the ending states compressed values; None if it isn't that of a string.
abbrev pub packed_in : Ending → Option Bool
packed_in Nothing = Some false
packed_in Compressed = Some true
packed_in _ = None

-- Whether the ending states the old format; None if it isn't that of a type of times.
abbrev pub old_in : Ending → Option Bool
old_in Nothing = Some false
old_in Old = Some true
old_in OldBinary = Some true
old_in _ = None

-- ---- by kinds of types

-- An integer, with the width of its display or without.
abbrev pub integer : IntegerSize → Numbers → Ending → Option SimpleType
integer size (numbers.Two m n) ending = None
integer size _ ending = option_map (λ is_unsigned. types.Integer size is_unsigned) (unsigned_in ending)

-- A floating-point number, with the digits that are shown or without.
abbrev pub floating : (is_double : Bool) → Numbers → Ending → Option SimpleType
floating is_double (numbers.One n) ending = None
floating true _ ending = option_map (λ is_unsigned. types.Double is_unsigned) (unsigned_in ending)
floating false _ ending = option_map (λ is_unsigned. types.Float is_unsigned) (unsigned_in ending)

-- A decimal number, always with its digits.
abbrev pub decimal : Numbers → Ending → Option SimpleType
decimal (numbers.Two precision scale) ending = option_map (λ is_unsigned. types.Decimal precision scale is_unsigned) (unsigned_in ending)
decimal _ ending = None

-- A type of times, with the digits behind the second; 0 of them aren't written.
abbrev pub temporal : TemporalKind → Numbers → Ending → Option SimpleType
temporal kind numbers.None ending = option_map (λ is_old. types.Temporal kind 0 is_old) (old_in ending)
temporal kind (numbers.One digits) ending = option_map (λ is_old. types.Temporal kind digits is_old) (old_in ending)
temporal kind (numbers.Two m n) ending = None

-- The type, if nothing is behind its word.
abbrev pub no_number : SimpleType → Numbers → Ending → Option SimpleType
no_number type numbers.None Nothing = Some type
no_number type _ _ = None

-- The number that is alone behind the word.
abbrev pub one_number : Numbers → Ending → Option ℕ
one_number (numbers.One number) Nothing = Some number
one_number _ _ = None

-- A string of a greatest length.
abbrev pub string : (is_binary : Bool) → Numbers → Ending → Option SimpleType
string true (numbers.One length) ending = option_map (λ is_compressed. types.VarBinary length is_compressed) (packed_in ending)
string false (numbers.One length) ending = option_map (λ is_compressed. types.VarChar length is_compressed) (packed_in ending)
string _ _ ending = None

-- A TEXT or a BLOB, with its greatest length or without.
abbrev pub large : (is_blob : Bool) → LengthSize → Numbers → Ending → Option SimpleType
large is_blob size (numbers.Two m n) ending = None
large true size _ ending = option_map (λ is_compressed. types.Blob size is_compressed) (packed_in ending)
large false size _ ending = option_map (λ is_compressed. types.Text size is_compressed) (packed_in ending)

-- A YEAR, with the number of digits that are shown or without.
abbrev pub year : Numbers → Ending → Option SimpleType
year numbers.None Nothing = Some types.Year
year (numbers.One n) Nothing = if (n == 2) || (n == 4) then Some types.Year else None
year _ _ = None

-- ---- by words

-- The type with this word, these numbers and this ending; None for ENUM and SET, and if there is none.
abbrev pub simple_type : Word → Numbers → Ending → Option SimpleType
simple_type words.TinyInt numbers ending = integer integers.Tiny numbers ending
simple_type words.SmallInt numbers ending = integer integers.Small numbers ending
simple_type words.MediumInt numbers ending = integer integers.Medium numbers ending
simple_type words.Int numbers ending = integer integers.Regular numbers ending
simple_type words.BigInt numbers ending = integer integers.Big numbers ending
simple_type words.Float numbers ending = floating false numbers ending
simple_type words.Double numbers ending = floating true numbers ending
simple_type words.Decimal numbers ending = decimal numbers ending
simple_type words.Year numbers ending = year numbers ending
simple_type words.Date numbers ending = no_number types.Date numbers ending
simple_type words.Time numbers ending = temporal times.Time numbers ending
simple_type words.DateTime numbers ending = temporal times.DateTime numbers ending
simple_type words.Timestamp numbers ending = temporal times.Timestamp numbers ending
simple_type words.VarChar numbers ending = string false numbers ending
simple_type words.VarBinary numbers ending = string true numbers ending
simple_type words.TinyText numbers ending = large false sizes.Tiny numbers ending
simple_type words.Text numbers ending = large false sizes.Regular numbers ending
simple_type words.MediumText numbers ending = large false sizes.Medium numbers ending
simple_type words.LongText numbers ending = large false sizes.Long numbers ending
simple_type words.TinyBlob numbers ending = large true sizes.Tiny numbers ending
simple_type words.Blob numbers ending = large true sizes.Regular numbers ending
simple_type words.MediumBlob numbers ending = large true sizes.Medium numbers ending
simple_type words.LongBlob numbers ending = large true sizes.Long numbers ending
simple_type words.Bit numbers ending = option_map (λ n. types.Bit n) (one_number numbers ending)
simple_type words.Char numbers ending = option_map (λ n. types.Char n) (one_number numbers ending)
simple_type words.Binary numbers ending = option_map (λ n. types.Binary n) (one_number numbers ending)
simple_type words.Vector numbers ending = option_map (λ n. types.Vector n) (one_number numbers ending)
simple_type words.Json numbers ending = no_number types.Json numbers ending
simple_type words.Inet4 numbers ending = no_number types.Inet4 numbers ending
simple_type words.Inet6 numbers ending = no_number types.Inet6 numbers ending
simple_type words.Uuid numbers ending = no_number types.Uuid numbers ending
simple_type words.Enum numbers ending = None
simple_type words.Set numbers ending = None
simple_type _ numbers ending = no_number types.Geometry numbers ending
