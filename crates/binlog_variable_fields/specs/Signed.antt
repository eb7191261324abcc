-- Signed variable-length integers: x is encoded as 2x where it isn't negative, and else as 2(-x-1)+1, so that numbers
-- near zero are short.
-- Source: MySQL's documentation of its serialization library, "Signed integers encoding".
use Rattle.std.proofs.Common.{ℕ, ◌+◌, ◌*◌, ◌/◌, ◌%◌, cond, eqb, List}
use Rattle.std.specs.Prelude.{ℤ, pos, negsuc}
use Rattle.binlog_wire.specs.Reading.{Read, read_as}
use Rattle.binlog_variable_fields.specs.Varlen.{varlen_at, varlen_written, IsVarlen}

-- The zigzag encoding of a signed number.
abbrev pub zigzag : ℤ → ℕ
zigzag (pos n) = 2 * n
zigzag (negsuc n) = 2 * n + 1

-- The signed number with this zigzag encoding.
abbrev pub unzigzag : ℕ → ℤ
unzigzag n = cond (eqb (n % 2) 0) (pos (n / 2)) (negsuc (n / 2))

-- Reading a signed variable-length integer.
abbrev pub varlen_signed_at : List ℕ → Read ℤ
varlen_signed_at s = read_as unzigzag (varlen_at s)

-- The bytes written for a signed number.
abbrev pub signed_written : ℤ → List ℕ
signed_written x = varlen_written (zigzag x)

-- The bytes encode the zigzag encoding of the signed number.
abbrev pub IsVarlenSigned : List ℕ → ℤ → List ℕ → Type 0
IsVarlenSigned s x r = IsVarlen s (zigzag x) r
