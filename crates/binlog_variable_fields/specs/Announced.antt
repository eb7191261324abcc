-- Optional parts that an earlier part announces, by its top bit or by a mark byte.
use Rattle.std.proofs.Common.{ℕ, ltb, ◌-◌, cond, Result, Ok, ◌+◌, eqb, ◌^◌, ◌<◌, List, ◌++◌, ◌≡◌, Option, None, Some, ◌∷◌, []}
use Rattle.byteorder.specs.Endian.{little_bytes}
use Rattle.binlog_wire.specs.Formats.{Place, Format, number, silent, then}
use Rattle.binlog_wire.specs.declared.error.Invalid.{Invalid}
use Rattle.binlog_wire.specs.Reading.{Read, read_as}
use Rattle.binlog_variable_fields.specs.Chosen.{choose}

-- ---- a top bit that announces an original value

-- A number of k bytes, and another one exactly where the top bit of the first is set.
abbrev pub announced_fields : {place : Place} (k half : ℕ) → Format place (ℕ × ℕ)
announced_fields k half = then (number k) (λ n. choose (ltb n half) (silent n) (number k))

-- The bit isn't part of the value.
abbrev pub announced_of : ℕ → ℕ × ℕ → Result (ℕ × ℕ) Invalid
announced_of half x = Ok (cond (ltb x.0 half) x.0 (x.0 - half), x.1)

-- The original is written only where it differs from the immediate value.
abbrev pub announced_code : ℕ → ℕ × ℕ → ℕ × ℕ
announced_code half v = (cond (eqb v.0 v.1) v.0 (v.0 + half), v.1)

-- The values can be written: the immediate one leaves the top bit free, and the original one fits in k bytes.
abbrev pub FitsAnnounced : ℕ → ℕ → ℕ × ℕ → Type 0
FitsAnnounced k half v = (v.0 < half) × (v.1 < 256 ^ k)

-- The written bytes of an immediate and an original value.
abbrev pub announced_written : ℕ → ℕ → ℕ × ℕ → List ℕ
announced_written k half v = cond (eqb v.0 v.1) (little_bytes k v.0) (little_bytes k (v.0 + half) ++ little_bytes k v.1)

-- ---- a part after a mark byte

-- The bytes are the mark byte and an encoding of a value, or don't begin with the mark.
abbrev pub IsBehind : {V : Type 0} → ℕ → (List ℕ → V → List ℕ → Type 0) → List ℕ → Option V → List ℕ → Type 0
IsBehind mark F s (Some v) r = (m : List ℕ) × (s ≡ mark ∷ m) × F m v r
IsBehind mark F s None r = ((m : List ℕ) → s ≡ mark ∷ m → ⊥) × (r ≡ s)

-- Reading a value after a mark byte, or none.
abbrev pub behind_at : {V : Type 0} → ℕ → (List ℕ → Read V) → List ℕ → Read (Option V)
behind_at mark f [] = Ok (None, [])
behind_at mark f (b ∷ s) = cond (eqb b mark) (read_as (λ v. Some v) (f s)) (Ok (None, b ∷ s))

-- The bytes written for an optional value after a mark byte.
abbrev pub behind_written : {V : Type 0} → ℕ → (V → List ℕ) → Option V → List ℕ
behind_written mark f (Some v) = mark ∷ f v
behind_written mark f None = []

-- The normal form of an optional value.
abbrev pub behind_normal : {V : Type 0} → (V → V) → Option V → Option V
behind_normal f (Some v) = Some (f v)
behind_normal f None = None

-- An optional value can be written.
abbrev pub FitsBehind : {V : Type 0} → (V → Type 0) → Option V → Type 0
FitsBehind f (Some v) = f v
FitsBehind f None = Unit {0}
