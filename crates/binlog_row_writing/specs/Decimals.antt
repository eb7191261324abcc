-- The bytes of decimal numbers, by their digits.
-- Source: MySQL's documentation of its source code, `decimal.h`.
use Rattle.std.specs.Prelude.{ℕ, zero, suc, ◌+◌, ◌-◌, ◌*◌, ◌/◌, ◌^◌, ◌==◌, ◌≤◌, Bool, true, false, List, [], ◌∷◌, ◌++◌, length, get_or, nat_lt, if◌then◌else◌}
use Rattle.std.specs.List.{All}
use Rattle.byteorder.specs.Endian.{big_bytes}
use Rattle.binlog_values.specs.Contents.{digits_len, groups}

-- Each is a decimal digit.
abbrev pub AreDigits : List ℕ → Type 0
AreDigits digits = All (λ d. d ≤ 9) digits

-- The precision and the scale are a column's, and the digits are at most as many as the precision.
abbrev pub IsDecimal : ℕ → ℕ → List ℕ → Type 0
IsDecimal precision scale digits = (1 ≤ precision) × (precision ≤ 65) × (scale ≤ precision) × (scale ≤ 38) × (length digits ≤ precision) × AreDigits digits

-- The digit at this index, the most significant first; those that are left out in front are 0.
unfoldable pub digit_at : ℕ → List ℕ → ℕ → ℕ
digit_at precision digits index = if nat_lt (index + length digits) precision then 0 else get_or digits (index + length digits - precision) 0

-- The number of so many digits, from this index on.
unfoldable pub group_number : ℕ → List ℕ → ℕ → ℕ → ℕ
group_number precision digits zero at = 0
group_number precision digits (suc count) at = group_number precision digits count at * 10 + digit_at precision digits (at + count)

-- The stored number of a group, in the first group or not, in a negative number or not; `all` is 256 to the power of the
-- group's length. The top bit of the first group says that the number isn't negative; in a negative number all other bits
-- are complemented.
abbrev pub stored_number : Bool → Bool → ℕ → ℕ → ℕ
stored_number true false all n = all / 2 + n
stored_number true true all n = all / 2 - 1 - n
stored_number false false all n = n
stored_number false true all n = all - 1 - n

-- The bytes of the group of so many digits from this index on.
unfoldable pub group_bytes : ℕ → Bool → List ℕ → ℕ → ℕ → Bool → List ℕ
group_bytes precision is_negative digits count at is_first =
    big_bytes (digits_len count) (stored_number is_first is_negative (256 ^ digits_len count) (group_number precision digits count at))

-- The bytes of groups, from this index on, after so many bytes.
abbrev pub groups_bytes : ℕ → Bool → List ℕ → List ℕ → ℕ → ℕ → List ℕ
groups_bytes precision is_negative digits [] at place = []
groups_bytes precision is_negative digits (count ∷ counts) at place =
    group_bytes precision is_negative digits count at (place == 0) ++ groups_bytes precision is_negative digits counts (at + count) (place + digits_len count)

-- The bytes of a decimal number of this precision and scale.
abbrev pub decimal_bytes : ℕ → ℕ → Bool → List ℕ → List ℕ
decimal_bytes precision scale is_negative digits = groups_bytes precision is_negative digits (groups precision scale) 0 0
