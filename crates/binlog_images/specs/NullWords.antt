-- The NULL bits of at most 64 columns as one number.
use Rattle.std.specs.Prelude.{◌≡◌, ℕ, ◌+◌, ◌==◌, Option, Some}
use Rattle.std.specs.Int.{bit_at}
use Rattle.binlog_rows.specs.Columns.{Bitmap}
use Rattle.binlog_images.specs.Bits.{is_set}

-- The number's bits, if there is one, are those of a bitmap from a place on, the first of them the least significant one.
abbrev pub HoldsNulls : Option ℕ → Bitmap → ℕ → Type 0
HoldsNulls found nulls place = (word : ℕ) → found ≡ Some word → (k : ℕ) → is_set nulls (place + k) ≡ (bit_at word k == 1)
