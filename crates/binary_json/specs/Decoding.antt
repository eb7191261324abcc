-- The value that bytes have, if they are checked. Of other bytes this says nothing.
use Rattle.std.specs.Prelude.{ℕ, zero, suc, ◌==◌, ◌^◌, Bool, List, [], ◌∷◌, drop, slice_index, if◌then◌else◌, Option, Some, None, is_ok}
use Rattle.binary_json.specs.Values.{Scalar, null, string, opaque, Json, scalar, array, object, Entries, no_entries, entry}
use Rattle.binary_json.specs.Layout.{is_container, is_object, fixed, entry_count, key_bytes, value_type, is_inlined, inlined_bytes, placed_bytes, text}
use Rattle.binary_json.specs.Refusals.{value_left}

unfoldable pub scalar_at : ℕ → List ℕ → Scalar
scalar_at t s = if t == 12 then string (text s) else if t == 15 then opaque (slice_index s 0) (text (drop 1 s)) else fixed t s

abbrev pub key_at : ℕ → List ℕ → ℕ → Option (List ℕ)
key_at t s i = if is_object t then Some (key_bytes t s i) else None

unfoldable pub entry_at : (ℕ → List ℕ → Json) → ℕ → List ℕ → ℕ → Json
entry_at value t s i = if is_inlined t (value_type t s i) then scalar (fixed (value_type t s i) (inlined_bytes t s i)) else value (value_type t s i) (placed_bytes t s i)

-- So many entries, from the i-th one on.
unfoldable pub entries_at : (ℕ → List ℕ → Json) → ℕ → List ℕ → ℕ → ℕ → Entries
entries_at value t s zero i = no_entries
entries_at value t s (suc n) i = entry (key_at t s i) (entry_at value t s i) (entries_at value t s n (suc i))

unfoldable pub container_at : (ℕ → List ℕ → Json) → ℕ → List ℕ → Json
container_at value t s = if is_object t then object (entries_at value t s (entry_count t s) 0) else array (entries_at value t s (entry_count t s) 0)

-- A value in which so many arrays and objects may be within one another.
unfoldable pub value_at : ℕ → ℕ → List ℕ → Json
value_at zero t s = scalar (scalar_at t s)
value_at (suc depth) t s = if is_container t then container_at (value_at depth) t s else scalar (scalar_at t s)

-- Bytes that are checked: whatever they cost, which is less than 2^64, as there is no longer document.
unfoldable pub is_readable : ℕ → List ℕ → Bool
is_readable t s = is_ok (value_left 100 t 0 s (2 ^ 64))

unfoldable pub value_in : ℕ → List ℕ → Json
value_in t s = value_at 100 t s

-- The entries of an array or an object.
unfoldable pub entries_in : ℕ → List ℕ → Entries
entries_in t s = entries_at (value_at 99) t s (entry_count t s) 0

-- The value of a document.
abbrev pub document_value : List ℕ → Json
document_value [] = scalar null
document_value (t ∷ s) = value_in t s
