-- Which bytes are which value.
--
-- A value is given by its type and by the bytes from its first one on; what stands behind it is ignored. It has a cost: the
-- number of bytes that are read of it, each time that they are read, for offsets may name the same bytes again. What stands in
-- an entry was read with the header, and costs nothing more.
use Rattle.std.specs.Prelude.{◌≡◌, ℕ, suc, ◌+◌, ◌*◌, ◌^◌, ◌<◌, ◌≤◌, ◌⊎◌, true, false, List, [], ◌∷◌, ◌++◌, length, slice_index, Option, Some, None}
use Rattle.binary_json.specs.Values.{Scalar, null, string, opaque, Json, scalar, array, object, Entries, no_entries, entry, nesting}
use Rattle.binary_json.specs.Layout.{is_object, fixed_len, fixed, width, entry_count, byte_size, header_len, key_offset, key_size, key_bytes, value_type, value_offset, is_inlined, inlined_bytes, placed_bytes}
use Rattle.binary_json.specs.Opaques.{is_opaque}

-- ---- scalars

-- A literal or a number, of a type from 4 to 11. There are three literals.
pub record IsFixed (x : Scalar) (t : ℕ) (s : List ℕ) : Type 0 where
  pub low : 4 ≤ t
  pub high : t ≤ 11
  pub enough : fixed_len t ≤ length s
  pub known : t ≡ 4 → slice_index s 0 ≤ 2
  pub is : x ≡ fixed t s

-- The bytes spell the number with seven bits each, the least significant first. All but the last have the top bit.
abbrev pub IsVariable : List ℕ → ℕ → Type 0
IsVariable [] n = ⊥
IsVariable (b ∷ []) n = (b < 128) × (n ≡ b)
IsVariable (b ∷ c ∷ s) n = (128 ≤ b) × ((high : ℕ) × (n + 128 ≡ b + 128 * high) × IsVariable (c ∷ s) high)

-- A text begins with its length, in at most five bytes.
pub record IsText (text s : List ℕ) (cost : ℕ) : Type 0 where
  pub front : List ℕ
  pub rest : List ℕ
  pub parts : s ≡ front ++ (text ++ rest)
  pub length_is : IsVariable front (length text)
  pub short : length front ≤ 5
  pub small : length text < 2 ^ 32
  pub cost_is : cost ≡ length front + length text

pub record IsString (x : Scalar) (t : ℕ) (s : List ℕ) (cost : ℕ) : Type 0 where
  pub kind_is : t ≡ 12
  pub bytes : List ℕ
  pub text : IsText bytes s cost
  pub is : x ≡ string bytes

-- An opaque value: its column type, and a text.
pub record IsOpaque (x : Scalar) (t : ℕ) (s : List ℕ) (cost : ℕ) : Type 0 where
  pub kind_is : t ≡ 15
  pub column : ℕ
  pub rest : List ℕ
  pub parts : s ≡ column ∷ rest
  pub bytes : List ℕ
  pub text_cost : ℕ
  pub text : IsText bytes rest text_cost
  pub fits : is_opaque column bytes ≡ true
  pub is : x ≡ opaque column bytes
  pub cost_is : cost ≡ suc text_cost

abbrev pub IsScalar : Scalar → ℕ → List ℕ → ℕ → Type 0
IsScalar x t s cost = (IsFixed x t s × (cost ≡ fixed_len t)) ⊎ (IsString x t s cost ⊎ IsOpaque x t s cost)

-- ---- entries

-- A key stands behind the header. The key of an object's entry may be empty.
abbrev pub IsKey : Option (List ℕ) → ℕ → List ℕ → ℕ → ℕ → Type 0
IsKey None t s i cost = (is_object t ≡ false) × (cost ≡ 0)
IsKey (Some key) t s i cost =
    (is_object t ≡ true) × (header_len t s ≤ key_offset t s i) × (key_offset t s i + key_size t s i ≤ byte_size t s) × (key ≡ key_bytes t s i) × (cost ≡ key_size t s i)

-- A value that stands in its entry.
pub record IsInlined (v : Json) (t : ℕ) (s : List ℕ) (i cost : ℕ) : Type 0 where
  pub inlined : is_inlined t (value_type t s i) ≡ true
  pub x : Scalar
  pub is_scalar : v ≡ scalar x
  pub fixed : IsFixed x (value_type t s i) (inlined_bytes t s i)
  pub no_cost : cost ≡ 0

-- A value at an offset behind the header: `Is` says that bytes are this value of a type.
pub record IsPlaced (Is : ℕ → List ℕ → ℕ → Type 0) (t : ℕ) (s : List ℕ) (i cost : ℕ) : Type 0 where
  pub placed : is_inlined t (value_type t s i) ≡ false
  pub behind : header_len t s ≤ value_offset t s i
  pub within : value_offset t s i < byte_size t s
  pub is : Is (value_type t s i) (placed_bytes t s i) cost

-- ---- values

-- The header fits into the size, and that into the bytes. `Are` says that the bytes have these entries.
pub record IsContainer (Are : ℕ → Type 0) (t : ℕ) (s : List ℕ) (cost : ℕ) : Type 0 where
  pub enough : 2 * width t ≤ length s
  pub within : byte_size t s ≤ length s
  pub room : header_len t s ≤ byte_size t s
  pub entries_cost : ℕ
  pub entries : Are entries_cost
  pub cost_is : cost ≡ header_len t s + entries_cost

abbrev mutual
  pub IsValue : Json → ℕ → List ℕ → ℕ → Type 0
  IsValue (scalar x) t s cost = IsScalar x t s cost
  IsValue (array es) t s cost = (2 ≤ t) × (t ≤ 3) × IsContainer (AreEntries es t s 0) t s cost
  IsValue (object es) t s cost = (t ≤ 1) × IsContainer (AreEntries es t s 0) t s cost

  -- The entries from the i-th one on.
  pub AreEntries : Entries → ℕ → List ℕ → ℕ → ℕ → Type 0
  AreEntries no_entries t s i cost = (i ≡ entry_count t s) × (cost ≡ 0)
  AreEntries (entry key v es) t s i cost =
      (i < entry_count t s) × ((a : ℕ) × (b : ℕ) × (c : ℕ) × IsKey key t s i a × (IsInlined v t s i b ⊎ IsPlaced (IsValue v) t s i b) × AreEntries es t s (suc i) c × (cost ≡ a + (b + c)))

-- ---- documents

-- A document is a type and a value. At most 100 arrays and objects are within one another, and the value costs no more than the
-- document has bytes behind its type. A document of no bytes is null.
abbrev pub IsDocument : List ℕ → Json → Type 0
IsDocument [] v = v ≡ scalar null
IsDocument (t ∷ s) v = (cost : ℕ) × IsValue v t s cost × (cost ≤ length s) × (nesting v ≤ 100)
