-- Variable-length integers: k bytes, 1 to 8, whose number is n * 2 ^ k + 2 ^ (k - 1) - 1; or 255 and n in 8 bytes.
-- The shortest encoding is written.
use Rattle.std.proofs.Common.{◌≡◌, ℕ, ◌+◌, ◌-◌, ◌*◌, ◌^◌, ◌<◌, ◌≤◌, List, ◌++◌, ◌∷◌, ◌⊎◌, suc, ◌/◌, cond, ltb, [], Ok, Err, zero, drop}
use Rattle.std.specs.Int.{w8, trailing_ones}
use Rattle.byteorder.specs.Endian.{little_bytes, little_number}
use Rattle.binlog_wire.specs.Fields.{IsNumber, number_at}
use Rattle.binlog_wire.specs.Reading.{ends, Read, ◌>>=◌}

-- ---- the grammar

-- A variable-length integer in 1 to 8 bytes.
abbrev pub IsShort : List ℕ → ℕ → List ℕ → Type 0
IsShort s n r = (k : ℕ) × (1 ≤ k) × (k ≤ 8) × (n < 2 ^ (7 * k)) × (s ≡ little_bytes k (n * 2 ^ k + 2 ^ (k - 1) - 1) ++ r)

-- A variable-length integer in 9 bytes.
abbrev pub IsLong : List ℕ → ℕ → List ℕ → Type 0
IsLong s n r = (m : List ℕ) × (s ≡ 255 ∷ m) × IsNumber 8 m n r

-- The bytes are a variable-length integer, in any of its encodings.
abbrev pub IsVarlen : List ℕ → ℕ → List ℕ → Type 0
IsVarlen s n r = IsShort s n r ⊎ IsLong s n r

-- ---- reading: the trailing one bits of the first byte are counted

-- Reading a variable-length integer.
abbrev pub varlen_at : List ℕ → Read ℕ
varlen_at [] = Err ends
varlen_at (b ∷ s) =
    let j = trailing_ones w8 b in
    cond (ltb j 8) (number_at (suc j) (b ∷ s) >>= λ x. Ok (x.0 / 2 ^ suc j, x.1)) (number_at 8 s)

-- The shortest encoding of at least k bytes, with t more widths to try.
abbrev pub written_from : ℕ → ℕ → ℕ → List ℕ
written_from zero k n = 255 ∷ little_bytes 8 n
written_from (suc t) k n = cond (ltb n (2 ^ (7 * k))) (little_bytes k (n * 2 ^ k + 2 ^ (k - 1) - 1)) (written_from t (suc k) n)

-- The shortest encoding.
unfoldable pub varlen_written : ℕ → List ℕ
varlen_written n = written_from 8 1 n

-- ---- the number in a given width

-- The number in an encoding of this width in bytes.
abbrev pub number_of : ℕ → List ℕ → ℕ
number_of width s = cond (ltb width 9) (little_number width s / 2 ^ width) (little_number 8 (drop 1 s))
