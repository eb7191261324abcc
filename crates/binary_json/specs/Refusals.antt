-- Which refusal comes first, and where.
--
-- A value is checked from its first byte on, depth first. A counter has what may still be read, in bytes: all bytes of the
-- document behind its type, at first. What is read is taken from it, each time that it is read.
use Rattle.std.specs.Prelude.{ℕ, zero, suc, ◌+◌, ◌-◌, ◌*◌, ◌==◌, ◌&&◌, ◌||◌, Bool, true, List, [], ◌∷◌, length, slice_index, nat_lt, nat_le, if◌then◌else◌, Option, Some, None, Result, Ok, Err}
use Rattle.binary_json.specs.declared.error.Refusal.{Refusal}
use Rattle.binary_json.specs.declared.error.Refusal.TheVariants as refusals
use Rattle.binary_json.specs.declared.error.JsonError.{JsonError}
use Rattle.binary_json.specs.Layout.{is_container, is_object, is_fixed, fixed_len, width, entry_count, byte_size, header_len, key_place, key_offset, key_size, value_place, value_type, value_offset, is_inlined, inlined_bytes, placed_bytes, variable, text}
use Rattle.binary_json.specs.Opaques.{is_opaque}

-- What is left of the counter, or the refusal.
abbrev pub Left : Type 0
Left = Result ℕ JsonError

infixl 10 ◌>>=◌
abbrev pub ◌>>=◌ : Left → (ℕ → Left) → Left
(Ok x) >>= f = f x
(Err e) >>= f = Err e

abbrev pub refuse : Refusal → ℕ → Left
refuse why place = Err (record { refusal = why; place = place })

-- So many bytes are read, from this place on.
abbrev pub spend : ℕ → ℕ → ℕ → Left
spend n place left = if nat_lt left n then refuse refusals.Work place else Ok (left - n)

-- ---- scalars

-- A literal above 2.
abbrev pub is_unknown : ℕ → List ℕ → Bool
is_unknown t s = t == 4 && nat_lt 2 (slice_index s 0)

unfoldable pub fixed_left : ℕ → ℕ → List ℕ → ℕ → Left
fixed_left t place s left =
    if nat_lt (length s) (fixed_len t) then refuse refusals.Short place
    else (spend (fixed_len t) place left >>= λ left. if is_unknown t s then refuse refusals.Literal place else Ok left)

abbrev pub text_left_by : Option (ℕ × ℕ) → ℕ → List ℕ → ℕ → Left
text_left_by None place s left = refuse refusals.Length place
text_left_by (Some p) place s left = if nat_lt (length s) (p.1 + p.0) then refuse refusals.Short place else spend (p.1 + p.0) place left

unfoldable pub text_left : ℕ → List ℕ → ℕ → Left
text_left place s left = text_left_by (variable s) place s left

abbrev pub opaque_left_of : ℕ → List ℕ → ℕ → Left
opaque_left_of place [] left = refuse refusals.Short place
opaque_left_of place (k ∷ s) left = do
  left ← spend 1 place left
  left ← text_left (place + 1) s left
  if is_opaque k (text s) then Ok left else refuse refusals.Opaque place

unfoldable pub opaque_left : ℕ → List ℕ → ℕ → Left
opaque_left place s left = opaque_left_of place s left

unfoldable pub scalar_left : ℕ → ℕ → List ℕ → ℕ → Left
scalar_left t place s left =
    if is_fixed t then fixed_left t place s left
    else if t == 12 then text_left place s left
    else if t == 15 then opaque_left place s left
    else refuse refusals.UnknownType place

-- ---- entries

-- The place of a refusal is that of the entry, and behind an offset that of the value.
unfoldable pub key_left : ℕ → ℕ → List ℕ → ℕ → ℕ → Left
key_left t place s i left =
    if is_object t then
    (if nat_lt (key_offset t s i) (header_len t s) || nat_lt (byte_size t s) (key_offset t s i + key_size t s i) then refuse refusals.Key (place + key_place t i) else spend (key_size t s i) (place + key_place t i) left)
    else Ok left

-- The check of a value: its type, its place, its bytes, and the counter.
abbrev pub Check : Type 0
Check = ℕ → ℕ → List ℕ → ℕ → Left

unfoldable pub value_left_by : Check → ℕ → ℕ → List ℕ → ℕ → ℕ → Left
value_left_by check t place s i left =
    if is_inlined t (value_type t s i) then
    (if is_unknown (value_type t s i) (inlined_bytes t s i) then refuse refusals.Literal (place + value_place t s i) else Ok left)
    else if nat_lt (value_offset t s i) (header_len t s) || nat_le (byte_size t s) (value_offset t s i) then refuse refusals.Offset (place + value_place t s i)
    else check (value_type t s i) (place + value_offset t s i) (placed_bytes t s i) left

-- So many entries, from the i-th one on.
unfoldable pub entries_left : Check → ℕ → ℕ → List ℕ → ℕ → ℕ → ℕ → Left
entries_left check t place s zero i left = Ok left
entries_left check t place s (suc n) i left = do
  left ← key_left t place s i left
  left ← value_left_by check t place s i left
  entries_left check t place s n (suc i) left

-- ---- values

-- The number of bytes of the header.
unfoldable pub header_of : ℕ → ℕ → List ℕ → Left
header_of t place s =
    if nat_lt (length s) (2 * width t) then refuse refusals.Short place
    else if nat_lt (length s) (byte_size t s) then refuse refusals.Size place
    else if nat_lt (byte_size t s) (header_len t s) then refuse refusals.Entries place
    else Ok (header_len t s)

unfoldable pub container_left : Check → Check
container_left check t place s left = do
  n ← header_of t place s
  left ← spend n place left
  entries_left check t place s (entry_count t s) 0 left

-- A value in which so many arrays and objects may be within one another.
unfoldable pub value_left : ℕ → Check
value_left zero t place s left = if is_container t then refuse refusals.Depth place else scalar_left t place s left
value_left (suc depth) t place s left = if is_container t then container_left (value_left depth) t place s left else scalar_left t place s left

-- ---- documents

abbrev pub result_of : Left → Result Bool JsonError
result_of (Ok left) = Ok true
result_of (Err e) = Err e

-- How a document is refused, if it is.
abbrev pub refusal_in : Left → Option JsonError
refusal_in (Ok left) = None
refusal_in (Err e) = Some e

unfoldable pub document_refusal : List ℕ → Option JsonError
document_refusal [] = None
document_refusal (t ∷ s) = refusal_in (value_left 100 t 1 s (length s))
