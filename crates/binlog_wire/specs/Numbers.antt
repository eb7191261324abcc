-- Numbers at an offset. All fixed-width numbers of a binlog are little-endian.
-- Source: MySQL's internals documentation, "Protocol::FixedLengthInteger".
use Rattle.std.specs.Prelude.{ℕ, List, drop}
use Rattle.byteorder.specs.Endian.{little_number}

-- The little-endian number of the two bytes at this offset.
abbrev pub u16_at : ℕ → List ℕ → ℕ
u16_at place bytes = little_number 2 (drop place bytes)

-- The little-endian number of the four bytes at this offset.
abbrev pub u32_at : ℕ → List ℕ → ℕ
u32_at place bytes = little_number 4 (drop place bytes)
