-- The least size of a whole that includes its own size field.
use Rattle.std.proofs.Common.{◌≡◌, ℕ, ◌+◌, length, cond, ltb}
use Rattle.binlog_variable_fields.specs.Varlen.{varlen_written}

-- The size is that of n other bytes and of its own encoding.
abbrev pub Solves : ℕ → ℕ → Type 0
Solves n size = size ≡ n + length (varlen_written size)

-- The least such size, where n is small.
abbrev pub least_size : ℕ → ℕ
least_size n = cond (ltb (n + 1) 128) (n + 1) (n + 2)
