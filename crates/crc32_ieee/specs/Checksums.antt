-- Functions that give the CRC-32 of bytes.
use Rattle.std.specs.Prelude.{◌≡◌, ◌↔◌, ℕ, List}
use Rattle.crc32_ieee.specs.Crc32.{crc32}

-- The checksum is the CRC-32 of the bytes.
abbrev pub IsCrc32 : List ℕ → ℕ → Type 0
IsCrc32 bytes checksum = checksum ≡ crc32 bytes

-- For all bytes the CRC-32 is given, and nothing else.
abbrev pub GivesCrc32 : (List ℕ → ℕ → Type 0) → Type 0
GivesCrc32 gives = (bytes : List ℕ) (checksum : ℕ) → gives bytes checksum ↔ IsCrc32 bytes checksum
