-- The fields that a body is made of. Each kind of field has an encoding and a reading: `F s v r` says that the bytes s
-- are an encoding of the value v, followed by the bytes r; the reading of s, from left to right, gives v and r, or why
-- s is refused. Bodies are built from these; `Laws` ties encoding and reading together, in both directions.
use Rattle.std.specs.Prelude.{◌≡◌, ℕ, zero, suc, ◌-◌, ◌^◌, ◌<◌, ◌≤◌, ◌⊎◌, Bool, true, List, [], ◌∷◌, ◌++◌, length, take, drop, get_or, replicate, Result, Ok, Err, nat_lt, if◌then◌else◌}
pub use Rattle.byteorder.specs.Endian.{little_number, little_bytes}
use Rattle.binlog_wire.specs.declared.error.Invalid.{Invalid}
use Rattle.binlog_wire.specs.Reading.{ends, invalid, Read, ◌>>=◌}

-- Each number of the list is a byte.
abbrev pub IsBytes : List ℕ → Type 0
IsBytes s = (i : ℕ) → get_or s i 0 < 256

-- ---- numbers

-- A little-endian number of k bytes.
-- Source: MySQL's internals documentation, "Protocol::FixedLengthInteger".
abbrev pub IsNumber : ℕ → List ℕ → ℕ → List ℕ → Type 0
IsNumber k s n r = (n < 256 ^ k) × (s ≡ little_bytes k n ++ r)

-- The little-endian number of the first k bytes.
abbrev pub number_at : ℕ → List ℕ → Read ℕ
number_at k s = if nat_lt (length s) k then Err ends else Ok (little_number k s, drop k s)

-- A number of k bytes whose value is allowed.
abbrev pub IsAllowed : ℕ → (ℕ → Bool) → List ℕ → ℕ → List ℕ → Type 0
IsAllowed k allowed s n r = IsNumber k s n r × (allowed n ≡ true)

-- A value that was read, refused as `invalid` where it isn't allowed.
abbrev pub allow : {V : Type 0} → (V → Bool) → (V → Invalid) → V × List ℕ → Read V
allow allowed why x = if allowed x.0 then Ok x else Err (invalid (why x.0))

-- The number of the first k bytes, refused as `invalid` where it isn't allowed.
abbrev pub allowed_at : ℕ → (ℕ → Bool) → (ℕ → Invalid) → List ℕ → Read ℕ
allowed_at k allowed why s = number_at k s >>= allow allowed why

-- A value that is encoded as its code, a number of k bytes.
abbrev pub IsCoded : {E : Type 0} → ℕ → (E → ℕ) → List ℕ → E → List ℕ → Type 0
IsCoded k code s e r = IsNumber k s (code e) r

-- The value of a decoded number and the rest, or why the number isn't a code.
abbrev pub meant : {E : Type 0} → Result E Invalid → List ℕ → Read E
meant (Ok e) rest = Ok (e, rest)
meant (Err why) rest = Err (invalid why)

-- The value whose code was read.
abbrev pub read_decoded : {P E : Type 0} → (P → Result E Invalid) → Read P → Read E
read_decoded decoded read = read >>= λ n. meant (decoded n.0) n.1

-- The value whose code is the number of the first k bytes.
abbrev pub coded_at : {E : Type 0} → ℕ → (ℕ → Result E Invalid) → List ℕ → Read E
coded_at k decoded s = read_decoded decoded (number_at k s)

-- ---- bytes

-- A block of k bytes with any values.
abbrev pub IsBlock : ℕ → List ℕ → List ℕ → List ℕ → Type 0
IsBlock k s block r = (length block ≡ k) × (s ≡ block ++ r)

-- The first k bytes.
abbrev pub block_at : ℕ → List ℕ → Read (List ℕ)
block_at k s = if nat_lt (length s) k then Err ends else Ok (take k s, drop k s)

-- All bytes that are left.
-- Source: MySQL's internals documentation, "Protocol::RestOfPacketString".
abbrev pub IsRest : List ℕ → List ℕ → List ℕ → Type 0
IsRest s rest r = (rest ≡ s) × (r ≡ [])

-- All bytes that are left.
abbrev pub rest_at : List ℕ → Read (List ℕ)
rest_at s = Ok (s, [])

-- A length-prefixed string: a length of k bytes and then as many bytes.
abbrev pub IsText : ℕ → List ℕ → List ℕ → List ℕ → Type 0
IsText k s text r = (m : List ℕ) × IsNumber k s (length text) m × (m ≡ text ++ r)

-- The string after a length of k bytes.
abbrev pub text_at : ℕ → List ℕ → Read (List ℕ)
text_at k s = number_at k s >>= λ n. block_at n.0 n.1

-- The encoding of a string with a length prefix of k bytes.
abbrev pub prefixed : ℕ → List ℕ → List ℕ
prefixed k text = little_bytes k (length text) ++ text

-- None of the bytes is zero.
abbrev pub HasNoZero : List ℕ → Type 0
HasNoZero [] = Unit {0}
HasNoZero (zero ∷ s) = ⊥
HasNoZero (suc b ∷ s) = HasNoZero s

-- A zero-terminated string: bytes other than zero, and then a zero byte.
-- Source: MySQL's internals documentation, "Protocol::NulTerminatedString".
abbrev pub IsTerminated : List ℕ → List ℕ → List ℕ → Type 0
IsTerminated s text r = HasNoZero text × (s ≡ text ++ 0 ∷ r)

-- The bytes before the first zero byte.
abbrev pub terminated_at : List ℕ → Read (List ℕ)
terminated_at [] = Err ends
terminated_at (zero ∷ s) = Ok ([], s)
terminated_at (suc b ∷ s) = terminated_at s >>= λ x. Ok (suc b ∷ x.0, x.1)

-- The first k bytes, padded with zeros to k bytes.
abbrev pub padded : ℕ → List ℕ → List ℕ
padded k s = take k s ++ replicate (k - length (take k s)) 0

-- ---- sequences of fields

-- One field and then another, whose encoding may depend on the value of the first.
abbrev pub Then : {A B : Type 0} → (List ℕ → A → List ℕ → Type 0) → (A → List ℕ → B → List ℕ → Type 0) → List ℕ → A × B → List ℕ → Type 0
Then F G s x r = (m : List ℕ) × F s x.0 m × G x.0 m x.1 r

-- Reading one field and then another.
abbrev pub then_at : {A B : Type 0} → (List ℕ → Read A) → (A → List ℕ → Read B) → List ℕ → Read (A × B)
then_at f g s = f s >>= λ a. g a.0 a.1 >>= λ b. Ok ((a.0, b.0), b.1)

-- Fields of k bytes in one unit: all k bytes have to be there before the first field is looked at. The encoding of a
-- unit is that of its fields.
abbrev pub unit_at : {V : Type 0} → ℕ → (List ℕ → Read V) → List ℕ → Read V
unit_at k f s = if nat_lt (length s) k then Err ends else f s

-- A field after k reserved bytes, which may have any values.
abbrev pub Skipped : {V : Type 0} → ℕ → (List ℕ → V → List ℕ → Type 0) → List ℕ → V → List ℕ → Type 0
Skipped k F s v r = (t : List ℕ) × (m : List ℕ) × IsBlock k s t m × F m v r

-- Reading a field after k reserved bytes.
abbrev pub skipped_at : {V : Type 0} → ℕ → (List ℕ → Read V) → List ℕ → Read V
skipped_at k f s = block_at k s >>= λ x. f x.1

-- Reserved bytes are written as zeros.
abbrev pub behind_zeros : {V : Type 0} → ℕ → (V → List ℕ) → V → List ℕ
behind_zeros k written v = replicate k 0 ++ written v

-- ---- a field mapped to another value

-- The encoding of b is that of `from b`.
abbrev pub IsSeenAs : {A B : Type 0} → (B → A) → (List ℕ → A → List ℕ → Type 0) → List ℕ → B → List ℕ → Type 0
IsSeenAs from F s b r = F s (from b) r

-- The encoding of b is that of a value of which `to` makes b.
abbrev pub IsMade : {A B : Type 0} → (A → B) → (List ℕ → A → List ℕ → Type 0) → List ℕ → B → List ℕ → Type 0
IsMade {A} to F s b r = (a : A) × (b ≡ to a) × F s a r

-- ---- optional fields

-- A value whose encoding is empty.
abbrev pub IsSilent : {V : Type 0} → V → List ℕ → V → List ℕ → Type 0
IsSilent x s v r = (v ≡ x) × (r ≡ s)

-- Reading a value whose encoding is empty.
abbrev pub silent_at : {V : Type 0} → V → List ℕ → Read V
silent_at x s = Ok (x, s)

-- A byte 0 and then one field, or any other byte and then another field.
abbrev pub IsEither : {V : Type 0} → (List ℕ → V → List ℕ → Type 0) → (List ℕ → V → List ℕ → Type 0) → List ℕ → V → List ℕ → Type 0
IsEither F G s v r = ((m : List ℕ) × (s ≡ 0 ∷ m) × F m v r) ⊎ ((b : ℕ) × (m : List ℕ) × (s ≡ suc b ∷ m) × (suc b < 256) × G m v r)

-- Reading the field that the first byte selects.
abbrev pub either_at : {V : Type 0} → (List ℕ → Read V) → (List ℕ → Read V) → List ℕ → Read V
either_at f g [] = Err ends
either_at f g (zero ∷ s) = f s
either_at f g (suc b ∷ s) = g s

-- A byte where one is left, and 0 where none is.
abbrev pub IsByteIfLeft : List ℕ → ℕ → List ℕ → Type 0
IsByteIfLeft s b r = ((s ≡ []) × (b ≡ 0) × (r ≡ [])) ⊎ ((s ≡ b ∷ r) × (b < 256))

-- The first byte, or 0 where none is left.
abbrev pub byte_if_left_at : List ℕ → Read ℕ
byte_if_left_at [] = Ok (0, [])
byte_if_left_at (b ∷ s) = Ok (b, s)

-- A field that is present exactly where at least n bytes are left, those after the body included, and whose value is x
-- where it is absent.
abbrev pub IsPresentFrom : {V : Type 0} → ℕ → V → (List ℕ → V → List ℕ → Type 0) → List ℕ → V → List ℕ → Type 0
IsPresentFrom n x F s v r = ((length s < n) × IsSilent x s v r) ⊎ ((n ≤ length s) × F s v r)

-- Reading a field that is present where n bytes are left.
abbrev pub present_from_at : {V : Type 0} → ℕ → V → (List ℕ → Read V) → List ℕ → Read V
present_from_at n x f s = if nat_lt (length s) n then silent_at x s else f s
