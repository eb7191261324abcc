-- Where the parts of a value stand in its bytes. Source: MySQL's documentation of its source code, `json_binary.h`.
--
-- A value is given by its type and by the bytes from its first one on: `t` and `s`. What stands behind the value is ignored.
use Rattle.std.specs.Prelude.{ℕ, zero, suc, ◌+◌, ◌-◌, ◌*◌, ◌%◌, ◌^◌, ◌==◌, ◌&&◌, Bool, List, [], ◌∷◌, drop, slice_range, slice_index, nat_lt, nat_le, if◌then◌else◌, Option, Some, None}
use Rattle.std.specs.Int.{w16, w32, w64, cast_signed}
use Rattle.byteorder.specs.Endian.{little_number}
use Rattle.binary_json.specs.Values.{Scalar, null, boolean, int16, uint16, int32, uint32, int64, uint64, double}

-- ---- types

-- The types 0 and 1 are objects, 2 and 3 arrays. The odd ones are large: their numbers have four bytes in place of two.
abbrev pub is_container : ℕ → Bool
is_container t = nat_lt t 4

abbrev pub is_object : ℕ → Bool
is_object t = nat_lt t 2

abbrev pub is_large : ℕ → Bool
is_large t = t % 2 == 1

-- The types 4 to 11: a literal, and numbers. Each has its own number of bytes.
abbrev pub is_fixed : ℕ → Bool
is_fixed t = nat_le 4 t && nat_le t 11

abbrev pub fixed_len : ℕ → ℕ
fixed_len t = if nat_le t 4 then 1 else (if nat_le t 6 then 2 else (if nat_le t 8 then 4 else 8))

-- ---- scalars

-- Literals: 0 is null, 1 true, 2 false.
abbrev pub literal : ℕ → Scalar
literal n = if n == 0 then null else boolean (n == 1)

-- The value of a type from 4 to 11.
unfoldable pub fixed : ℕ → List ℕ → Scalar
fixed t s =
    if t == 4 then literal (slice_index s 0)
    else if t == 5 then int16 (cast_signed w16 (little_number 2 s))
    else if t == 6 then uint16 (little_number 2 s)
    else if t == 7 then int32 (cast_signed w32 (little_number 4 s))
    else if t == 8 then uint32 (little_number 4 s)
    else if t == 9 then int64 (cast_signed w64 (little_number 8 s))
    else if t == 10 then uint64 (little_number 8 s)
    else double (little_number 8 s)

-- ---- arrays and objects: two numbers, the entries of the keys, the entries of the values, and the bytes that these name

abbrev pub width : ℕ → ℕ
width t = if is_large t then 4 else 2

abbrev pub word : ℕ → List ℕ → ℕ
word t s = little_number (width t) s

-- The number of entries.
unfoldable pub entry_count : ℕ → List ℕ → ℕ
entry_count t s = word t s

-- The number of bytes of all of it. Nothing behind them belongs to it.
unfoldable pub byte_size : ℕ → List ℕ → ℕ
byte_size t s = word t (drop (width t) s)

-- A key has an offset, and a length of two bytes.
abbrev pub key_len : ℕ → ℕ
key_len t = if is_object t then width t + 2 else 0

-- A value has a type, and an offset or the value itself.
abbrev pub value_len : ℕ → ℕ
value_len t = width t + 1

-- The number of bytes of both numbers and all entries.
unfoldable pub header_len : ℕ → List ℕ → ℕ
header_len t s = 2 * width t + entry_count t s * (key_len t + value_len t)

-- Where the entry of a key begins, and that of a value.
unfoldable pub key_place : ℕ → ℕ → ℕ
key_place t i = 2 * width t + i * key_len t

unfoldable pub value_place : ℕ → List ℕ → ℕ → ℕ
value_place t s i = 2 * width t + entry_count t s * key_len t + i * value_len t

-- What the entry of a key says.
unfoldable pub key_offset : ℕ → List ℕ → ℕ → ℕ
key_offset t s i = word t (drop (key_place t i) s)

unfoldable pub key_size : ℕ → List ℕ → ℕ → ℕ
key_size t s i = little_number 2 (drop (key_place t i + width t) s)

-- What the entry of a value says.
unfoldable pub value_type : ℕ → List ℕ → ℕ → ℕ
value_type t s i = slice_index s (value_place t s i)

unfoldable pub value_offset : ℕ → List ℕ → ℕ → ℕ
value_offset t s i = word t (drop (value_place t s i + 1) s)

-- Values of these types stand in their entry, in the bytes that would have the offset.
abbrev pub is_inlined : ℕ → ℕ → Bool
is_inlined t k = nat_le 4 k && nat_le k (if is_large t then 8 else 6)

-- The bytes of a value in its entry.
unfoldable pub inlined_bytes : ℕ → List ℕ → ℕ → List ℕ
inlined_bytes t s i = slice_range s (value_place t s i + 1) (value_place t s i + 1 + width t)

-- The bytes from that of a value's offset on.
unfoldable pub placed_bytes : ℕ → List ℕ → ℕ → List ℕ
placed_bytes t s i = slice_range s (value_offset t s i) (byte_size t s)

-- The bytes of a key.
unfoldable pub key_bytes : ℕ → List ℕ → ℕ → List ℕ
key_bytes t s i = slice_range s (key_offset t s i) (key_offset t s i + key_size t s i)

-- ---- lengths

-- A number of at most so many bytes, and their count: seven bits a byte, the least significant first. The top bit of a byte
-- says that another one follows. None where the bytes end before.
abbrev pub with_low : ℕ → Option (ℕ × ℕ) → Option (ℕ × ℕ)
with_low low None = None
with_low low (Some p) = Some (low + 128 * p.0, suc p.1)

abbrev pub variable_in : ℕ → List ℕ → Option (ℕ × ℕ)
variable_in zero s = None
variable_in (suc most) [] = None
variable_in (suc most) (b ∷ s) = if nat_lt b 128 then Some (b, 1) else with_low (b - 128) (variable_in most s)

-- Such a number of at most five bytes, which is below 2^32.
abbrev pub if_small : Option (ℕ × ℕ) → Option (ℕ × ℕ)
if_small None = None
if_small (Some p) = if nat_lt p.0 (2 ^ 32) then Some p else None

unfoldable pub variable : List ℕ → Option (ℕ × ℕ)
variable s = if_small (variable_in 5 s)

-- The bytes behind their length.
abbrev pub text_behind : Option (ℕ × ℕ) → List ℕ → List ℕ
text_behind None s = []
text_behind (Some p) s = slice_range s p.1 (p.1 + p.0)

unfoldable pub text : List ℕ → List ℕ
text s = text_behind (variable s) s
