-- Bitmaps: bit 0 is the least significant bit of the first byte.
-- Source: MySQL's documentation of its source code, `mysql::binlog::event::Rows_event` and `Table_map_event`.
use Rattle.std.specs.Prelude.{ℕ, ◌+◌, ◌/◌, ◌%◌, Bool, List, get_or, Option, Some, None, nat_lt, ◌==◌, if◌then◌else◌}
use Rattle.std.specs.Int.{bit_at}

-- The number of bytes of a bitmap of `len` bits.
abbrev pub bytes_of_bits : ℕ → ℕ
bytes_of_bits len = (len + 7) / 8

-- Whether the bit at this index is set.
abbrev pub bit_of : List ℕ → ℕ → Bool
bit_of bytes index = bit_at (get_or bytes (index / 8) 0) (index % 8) == 1

-- The bit at this index, where the bitmap has `len` bits, or None.
abbrev pub bit_in : ℕ → List ℕ → ℕ → Option Bool
bit_in len bytes index = if nat_lt index len then Some (bit_of bytes index) else None
