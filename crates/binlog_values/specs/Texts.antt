-- Decimal digits, and text of them.
use Rattle.std.specs.Prelude.{ℕ, zero, suc, ◌+◌, ◌/◌, ◌%◌, ◌^◌, Bool, List, [], ◌∷◌, ◌++◌, map, if◌then◌else◌, ◌≡◌}

-- The last decimal digits of a number, this many, with zeros in front.
unfoldable pub last_digits : ℕ → ℕ → List ℕ
last_digits zero n = []
last_digits (suc count) n = (n / 10 ^ count % 10) ∷ last_digits count n

-- Digits as text.
abbrev pub digits_codes : List ℕ → List ℕ
digits_codes digits = map (λ digit. 48 + digit) digits

-- The last decimal digits of a number as text.
abbrev pub digits_text : ℕ → ℕ → List ℕ
digits_text count n = digits_codes (last_digits count n)

-- A minus sign for a negative number.
abbrev pub sign_text : Bool → List ℕ
sign_text is_negative = if is_negative then 45 ∷ [] else []

-- The text has the first one in front.
abbrev pub StartsWith : List ℕ → List ℕ → Type 0
StartsWith front text = (rest : List ℕ) × (text ≡ front ++ rest)
