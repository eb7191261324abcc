-- Null bitmaps: a bit for each column that is present, the least significant bit of the first byte first.
use Rattle.std.specs.Prelude.{ℕ, zero, suc, ◌+◌, ◌*◌, Bool, true, List, [], ◌∷◌, length, drop, get_or, if◌then◌else◌}
use Rattle.binlog_wire.specs.Bits.{bytes_of_bits}

-- Set for NULL, and beyond the last column, as servers write it.
abbrev pub null_bit : List Bool → ℕ → ℕ
null_bit flags place = if get_or flags place true then 1 else 0

-- The bits of eight columns.
abbrev pub null_byte : List Bool → ℕ
null_byte flags =
    (null_bit flags 0 + 2 * null_bit flags 1 + 4 * null_bit flags 2 + 8 * null_bit flags 3)
    + 16 * (null_bit flags 4 + 2 * null_bit flags 5 + 4 * null_bit flags 6 + 8 * null_bit flags 7)

-- So many bytes, each of which has the bits of eight columns, from this place on.
abbrev pub null_bytes : ℕ → ℕ → List Bool → List ℕ
null_bytes zero place flags = []
null_bytes (suc count) place flags = null_byte (drop place flags) ∷ null_bytes count (place + 8) flags

-- A bit for each column.
abbrev pub nulls_of : List Bool → List ℕ
nulls_of flags = null_bytes (bytes_of_bits (length flags)) 0 flags
