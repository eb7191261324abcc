-- Bitmaps of the optional metadata: bit 0 is the most significant bit of the first byte.
use Rattle.std.specs.Prelude.{ℕ, ◌-◌, ◌/◌, ◌%◌, Bool, List, get_or, Option, Some, None, nat_lt, ◌==◌, if◌then◌else◌}
use Rattle.std.specs.Int.{bit_at}

-- The bit at this index, where the bitmap has `len` bits, or None.
abbrev pub first_bit_in : ℕ → List ℕ → ℕ → Option Bool
first_bit_in len bytes index = if nat_lt index len then Some (bit_at (get_or bytes (index / 8) 0) (7 - index % 8) == 1) else None
