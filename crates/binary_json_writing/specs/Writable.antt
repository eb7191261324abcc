-- Which values can be written.
use Rattle.std.specs.Prelude.{ℕ, ℤ, pos, negsuc, ◌^◌, ◌&&◌, Bool, true, false, List, length, nat_lt, Option, Some, None}
use Rattle.binary_json.specs.Values.{Scalar, null, boolean, int16, uint16, int32, uint32, int64, uint64, double, string, opaque, Json, scalar, array, object, Entries, no_entries, entry}
use Rattle.binary_json.specs.Opaques.{is_opaque}
use Rattle.binary_json_writing.specs.Written.{Item, size, container_type, items}

-- A signed number that is at least the negative of this power of two, and below it.
abbrev pub is_signed : ℕ → ℤ → Bool
is_signed limit (pos n) = nat_lt n limit
is_signed limit (negsuc n) = nat_lt n limit

-- Numbers fit their types, strings and opaque values have fewer than 2^32 bytes, and an opaque value is one of its column type.
abbrev pub is_writable_scalar : Scalar → Bool
is_writable_scalar null = true
is_writable_scalar (boolean b) = true
is_writable_scalar (int16 n) = is_signed (2 ^ 15) n
is_writable_scalar (uint16 n) = nat_lt n (2 ^ 16)
is_writable_scalar (int32 n) = is_signed (2 ^ 31) n
is_writable_scalar (uint32 n) = nat_lt n (2 ^ 32)
is_writable_scalar (int64 n) = is_signed (2 ^ 63) n
is_writable_scalar (uint64 n) = nat_lt n (2 ^ 64)
is_writable_scalar (double bits) = nat_lt bits (2 ^ 64)
is_writable_scalar (string s) = nat_lt (length s) (2 ^ 32)
is_writable_scalar (opaque column s) = nat_lt (length s) (2 ^ 32) && is_opaque column s

-- The entries of an object have keys of fewer than 2^16 bytes, and those of an array have none.
abbrev pub is_writable_key : Bool → Option (List ℕ) → Bool
is_writable_key true (Some key) = nat_lt (length key) (2 ^ 16)
is_writable_key true None = false
is_writable_key false (Some key) = false
is_writable_key false None = true

-- An array or an object has fewer than 2^32 bytes.
unfoldable pub fits : ℕ → List Item → Bool
fits t xs = nat_lt (size (container_type t xs) xs) (2 ^ 32)

abbrev mutual
  pub is_writable : Json → Bool
  is_writable (scalar x) = is_writable_scalar x
  is_writable (array es) = fits 2 (items es) && are_writable false es
  is_writable (object es) = fits 0 (items es) && are_writable true es

  pub are_writable : Bool → Entries → Bool
  are_writable keyed no_entries = true
  are_writable keyed (entry key v es) = is_writable_key keyed key && (is_writable v && are_writable keyed es)
