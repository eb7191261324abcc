-- The numbers that are stored for integers, years, bits, ENUMs and SETs. A value of another kind is refused.
use Rattle.std.specs.Prelude.{ℕ, ℤ, pos, negsuc, ◌-◌, ◌*◌, ◌^◌, ◌==◌, nat_lt, nat_le, if◌then◌else◌, Result, Ok, Err}
use Rattle.binlog_row_writing.specs.declared.new_value.NewValue.{NewValue}
use Rattle.binlog_row_writing.specs.declared.new_value.NewValue.TheVariants.{Unsigned, Signed, Float, Double, Year, Bit, Enum, Set}
use Rattle.binlog_row_writing.specs.declared.row_write_error.RowWriteErrorKind.{RowWriteErrorKind}
use Rattle.binlog_row_writing.specs.declared.row_write_error.RowWriteErrorKind.TheVariants.{WrongType, OutOfRange}

-- The number that is stored for a value, or why it is refused.
abbrev pub Numbered : Type 0
Numbered = Result ℕ RowWriteErrorKind

-- A signed number in two's complement of this many bytes; `negsuc n` is -(n + 1).
abbrev pub signed_number : ℕ → ℤ → Numbered
signed_number size (pos n) = if nat_lt n (2 ^ (8 * size - 1)) then Ok n else Err OutOfRange
signed_number size (negsuc n) = if nat_lt n (2 ^ (8 * size - 1)) then Ok (2 * 2 ^ (8 * size - 1) - 1 - n) else Err OutOfRange

abbrev pub integer_number : ℕ → NewValue → Numbered
integer_number size (Unsigned n) = Ok n
integer_number size (Signed n) = signed_number size n
integer_number size _ = Err WrongType

abbrev pub float_number : NewValue → Numbered
float_number (Float bits) = Ok bits
float_number _ = Err WrongType

abbrev pub double_number : NewValue → Numbered
double_number (Double bits) = Ok bits
double_number _ = Err WrongType

-- A year from 1901 on is stored less 1900.
abbrev pub year_in : ℕ → Numbered
year_in year = if year == 0 then Ok 0 else if nat_le 1901 year then Ok (year - 1900) else Err OutOfRange

abbrev pub year_number : NewValue → Numbered
year_number (Year year) = year_in year
year_number _ = Err WrongType

abbrev pub bit_number : NewValue → Numbered
bit_number (Bit bits) = Ok bits
bit_number _ = Err WrongType

abbrev pub enum_number : NewValue → Numbered
enum_number (Enum index) = Ok index
enum_number _ = Err WrongType

abbrev pub set_number : NewValue → Numbered
set_number (Set members) = Ok members
set_number _ = Err WrongType
