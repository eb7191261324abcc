-- The null bits of columns as one number.
use Rattle.std.specs.Prelude.{◌≡◌, ◌+◌, ◌<◌, ◌==◌, ℕ}
use Rattle.std.specs.Int.{bit_at}
use Rattle.binlog_rows.specs.Columns.{Bitmap}
use Rattle.binlog_images.specs.Bits.{is_set}

-- The number's bits are those of a bitmap from a place on, the first of them the least significant one.
abbrev pub HoldsNulls : Bitmap → ℕ → ℕ → Type 0
HoldsNulls nulls place word = (k : ℕ) → place + k < nulls.0 → is_set nulls (place + k) ≡ (bit_at word k == 1)
