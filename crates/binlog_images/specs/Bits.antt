-- The bits of an image: which columns are present, and which of the present ones are NULL.
use Rattle.std.specs.Prelude.{ℕ, zero, suc, ◌+◌, Bool, true, false, unwrap_or, if◌then◌else◌}
use Rattle.binlog_wire.specs.Bits.{bit_in}
use Rattle.binlog_rows.specs.Columns.{Bitmap}

-- Whether the bit at this index is set; none is beyond the last one.
abbrev pub is_set : Bitmap → ℕ → Bool
is_set bits index = unwrap_or (bit_in bits.0 bits.1 index) false

-- How many of so many bits are set, from an index on.
abbrev pub set_count : ℕ → ℕ → Bitmap → ℕ
set_count zero index bits = 0
set_count (suc count) index bits = (if is_set bits index then 1 else 0) + set_count count (index + 1) bits

-- The bits of an image, and where the next column's are: its index among all columns, and among those that are present.
pub record Bits : Type 0 where
  pub present : Bitmap
  pub nulls : Bitmap
  pub index : ℕ
  pub place : ℕ

-- The bits of the first column.
abbrev pub first_bits : Bitmap → Bitmap → Bits
first_bits present nulls = record { present = present; nulls = nulls; index = 0; place = 0 }

abbrev pub is_present : Bits → Bool
is_present bits = is_set bits.present bits.index

-- Whether the next column is NULL, if it is present.
abbrev pub is_null : Bits → Bool
is_null bits = is_set bits.nulls bits.place

-- Only a column that is present has a null bit.
abbrev pub next_place : Bool → ℕ → ℕ
next_place true place = place + 1
next_place false place = place

-- The bits of the column after the next one.
abbrev pub next_bits : Bits → Bits
next_bits bits = record { present = bits.present; nulls = bits.nulls; index = bits.index + 1; place = next_place (is_present bits) bits.place }
