-- CRC-32 as IEEE 802.3, zlib and MySQL compute it, bit by bit: the remainder of a polynomial division over GF(2),
-- least significant bit of each byte first, in a 32-bit register.
use Rattle.std.specs.Prelude.{◌≡◌, ℕ, zero, suc, ◌+◌, ◌-◌, ◌*◌, ◌/◌, ◌%◌, ◌^◌, ◌<◌, List, [], ◌∷◌, slice_index}
use Rattle.std.specs.Int.{w32, bit_not}
use Rattle.std.specs.Int.RustNames.{bit_xor}

-- The CRC polynomial x^32 + x^26 + x^23 + x^22 + x^16 + x^12 + x^11 + x^10 + x^8 + x^7 + x^5 + x^4 + x^2 + x + 1,
-- without its first term and with its bits reversed.
abbrev pub polynomial : ℕ
polynomial = 0xedb88320

-- Shifts the lowest bit out of the register and, if it is set, adds the polynomial.
unfoldable pub after_bit : ℕ → ℕ
after_bit c = bit_xor (c / 2) (c % 2 * polynomial)

-- Shifts n bits out of the register.
unfoldable pub after_bits : ℕ → ℕ → ℕ
after_bits zero c = c
after_bits (suc n) c = after_bits n (after_bit c)

-- The register after the bytes: each is xored into it, and eight bits are shifted out.
unfoldable pub register : ℕ → List ℕ → ℕ
register c [] = c
register c (b ∷ s) = register (after_bits 8 (bit_xor c b)) s

-- The register is initialised with ones, and the result is complemented.
unfoldable pub crc32 : List ℕ → ℕ
crc32 s = bit_not w32 (register (2 ^ 32 - 1) s)

-- The first entries of the tables: a word's last byte is looked up in the first table, the byte before it in the
-- second, and so on. The entry of a byte is the register after that byte and as many zero bytes as follow it in the
-- word.
abbrev pub AreEntries : ℕ → List ℕ → Type 0
AreEntries count tables = (j : ℕ) → j < count → slice_index tables j ≡ after_bits (8 * (j / 256 + 1)) (j % 256)
