-- Decimal numbers as text, by groups of their digits.
use Rattle.std.specs.Prelude.{ℕ, zero, suc, ◌+◌, ◌/◌, ◌%◌, ◌^◌, ◌==◌, Bool, List, [], ◌∷◌, ◌++◌, if◌then◌else◌}
use Rattle.std.specs.Fmt.{decimal}
use Rattle.json_line.specs.Buffers.{minus}

-- The last decimal digits of a number as text, this many, with zeros in front.
unfoldable pub last_codes : ℕ → ℕ → List ℕ
last_codes zero n = []
last_codes (suc count) n = (48 + n / 10 ^ count % 10) ∷ last_codes count n

-- Groups of nine digits, each by its number.
abbrev pub nines_text : List ℕ → List ℕ
nines_text [] = []
nines_text (group ∷ groups) = last_codes 9 group ++ nines_text groups

-- The point and so many digits behind it: groups of nine, and those of the last number. No digits: nothing.
unfoldable pub scale_text : ℕ → List ℕ → ℕ → List ℕ
scale_text scale groups last = if scale == 0 then [] else 46 ∷ (nines_text groups ++ last_codes (scale % 9) last)

-- A decimal number with its sign: the digits of its first number, groups of nine, and what is behind the point.
unfoldable pub decimal_text : Bool → ℕ → List ℕ → ℕ → List ℕ → ℕ → List ℕ
decimal_text is_negative first whole scale part last = minus is_negative ++ (decimal first ++ (nines_text whole ++ scale_text scale part last))
