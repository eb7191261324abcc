-- The bytes that MySQL's serializer writes for a value. Source: MySQL's documentation of its source code, `json_binary.h`.
use Rattle.std.specs.Prelude.{ℕ, zero, suc, ◌+◌, ◌-◌, ◌*◌, ◌/◌, ◌%◌, ◌==◌, ◌&&◌, true, false, List, [], ◌∷◌, ◌++◌, length, drop, replicate, slice_index, nat_lt, nat_le, if◌then◌else◌, Option, Some, None}
use Rattle.std.specs.Int.{w16, w32, w64, cast_unsigned}
use Rattle.byteorder.specs.Endian.{little_bytes}
use Rattle.binary_json.specs.Values.{Scalar, null, boolean, int16, uint16, int32, uint32, int64, uint64, double, string, opaque, Json, scalar, array, object, Entries, no_entries, entry}
use Rattle.binary_json.specs.Layout.{is_object, width, key_len, value_len, is_inlined}

-- ---- scalars

-- A number as seven bits a byte, the least significant first, in as few bytes as it needs. The first argument bounds the bytes.
unfoldable pub variable_bytes : ℕ → ℕ → List ℕ
variable_bytes zero n = (n % 128) ∷ []
variable_bytes (suc most) n = if nat_lt n 128 then n ∷ [] else (n % 128 + 128) ∷ variable_bytes most (n / 128)

-- Bytes behind their length.
abbrev pub counted_bytes : List ℕ → List ℕ
counted_bytes s = variable_bytes 4 (length s) ++ s

-- The type, and the bytes.
abbrev pub written_scalar : Scalar → List ℕ
written_scalar null = 4 ∷ (0 ∷ [])
written_scalar (boolean true) = 4 ∷ (1 ∷ [])
written_scalar (boolean false) = 4 ∷ (2 ∷ [])
written_scalar (int16 n) = 5 ∷ little_bytes 2 (cast_unsigned w16 n)
written_scalar (uint16 n) = 6 ∷ little_bytes 2 n
written_scalar (int32 n) = 7 ∷ little_bytes 4 (cast_unsigned w32 n)
written_scalar (uint32 n) = 8 ∷ little_bytes 4 n
written_scalar (int64 n) = 9 ∷ little_bytes 8 (cast_unsigned w64 n)
written_scalar (uint64 n) = 10 ∷ little_bytes 8 n
written_scalar (double bits) = 11 ∷ little_bytes 8 bits
written_scalar (string s) = 12 ∷ counted_bytes s
written_scalar (opaque column s) = 15 ∷ (column ∷ counted_bytes s)

-- ---- arrays and objects of type `t`: 0 and 1 are objects, 2 and 3 arrays, and the odd ones are large

-- What is written of an entry: its key, which is empty in an array, and its value, a type and its bytes.
pub record Item : Type 0 where
  pub key : List ℕ
  pub value : List ℕ

abbrev pub kind : Item → ℕ
kind x = slice_index x.value 0

abbrev pub bytes : Item → List ℕ
bytes x = drop 1 x.value

-- The bytes of a value that doesn't stand in its entry.
unfoldable pub placed : ℕ → Item → List ℕ
placed t x = if is_inlined t (kind x) then [] else bytes x

-- How many bytes an entry takes: in the header, for its key, and for its value.
abbrev pub entry_size : ℕ → Item → ℕ
entry_size t x = (key_len t + value_len t) + (length x.key + length (placed t x))

abbrev pub entries_size : ℕ → List Item → ℕ
entries_size t [] = 0
entries_size t (x ∷ xs) = entry_size t x + entries_size t xs

-- How many bytes all of it takes.
unfoldable pub size : ℕ → List Item → ℕ
size t xs = 2 * width t + entries_size t xs

-- The entry of a key: its offset and its length. An array has none.
unfoldable pub key_entry : ℕ → ℕ → Item → List ℕ
key_entry t offset x = if is_object t then little_bytes (width t) offset ++ little_bytes 2 (length x.key) else []

abbrev pub key_entries : ℕ → ℕ → List Item → List ℕ
key_entries t offset [] = []
key_entries t offset (x ∷ xs) = key_entry t offset x ++ key_entries t (offset + length x.key) xs

-- A negative int16 has its sign in the bytes of its entry that it leaves.
abbrev pub filling : Item → ℕ
filling x = if kind x == 5 && nat_le 128 (slice_index (bytes x) 1) then 255 else 0

-- The entry of a value: its type, and its bytes or its offset.
unfoldable pub value_entry : ℕ → ℕ → Item → List ℕ
value_entry t offset x =
    kind x ∷ (if is_inlined t (kind x) then bytes x ++ replicate (width t - length (bytes x)) (filling x) else little_bytes (width t) offset)

abbrev pub value_entries : ℕ → ℕ → List Item → List ℕ
value_entries t offset [] = []
value_entries t offset (x ∷ xs) = value_entry t offset x ++ value_entries t (offset + length (placed t x)) xs

abbrev pub keys : List Item → List ℕ
keys [] = []
keys (x ∷ xs) = x.key ++ keys xs

abbrev pub all_placed : ℕ → List Item → List ℕ
all_placed t [] = []
all_placed t (x ∷ xs) = placed t x ++ all_placed t xs

-- Where the keys begin, and where the values do.
abbrev pub keys_offset : ℕ → List Item → ℕ
keys_offset t xs = 2 * width t + length xs * (key_len t + value_len t)

abbrev pub values_offset : ℕ → List Item → ℕ
values_offset t xs = keys_offset t xs + length (keys xs)

-- The count, the size, the entries of the keys, those of the values, the keys, and the values that don't stand in their entries.
unfoldable pub container : ℕ → List Item → List ℕ
container t xs =
    little_bytes (width t) (length xs)
    ++ (little_bytes (width t) (size t xs) ++ (key_entries t (keys_offset t xs) xs ++ (value_entries t (values_offset t xs) xs ++ (keys xs ++ all_placed t xs))))

-- Small, if that has at most 65,535 bytes, and else large. A large value within has more, so that a small array or object has only
-- small ones.
unfoldable pub container_type : ℕ → List Item → ℕ
container_type t xs = if nat_le (size t xs) 65535 then t else suc t

abbrev pub written_container : ℕ → List Item → List ℕ
written_container t xs = container_type t xs ∷ container (container_type t xs) xs

-- ---- values

abbrev pub key_of : Option (List ℕ) → List ℕ
key_of None = []
key_of (Some key) = key

abbrev pub item_of : Option (List ℕ) → List ℕ → Item
item_of key s = record { key = key_of key; value = s }

-- The document of a value: its type, and its bytes.
abbrev mutual
  pub written : Json → List ℕ
  written (scalar x) = written_scalar x
  written (array es) = written_container 2 (items es)
  written (object es) = written_container 0 (items es)

  pub items : Entries → List Item
  items no_entries = []
  items (entry key v es) = item_of key (written v) ∷ items es
