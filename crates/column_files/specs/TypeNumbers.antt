-- The numbers in the parentheses of a type.
use Rattle.std.specs.Prelude.{ℕ, ◌==◌, Bool, false, not, List, [], ◌∷◌, take, drop, Option, Some, None, option_map, if◌then◌else◌}
use Rattle.std.specs.Char.{is_ascii_digit}
use Rattle.std.specs.List.{list_all, prefix_len}
use Rattle.std.specs.Option.{option_and_then}
use Rattle.column_files.specs.Reading.{value_in}
use Rattle.column_files.specs.declared.type_numbers.Numbers.{Numbers}
use Rattle.column_files.specs.declared.type_numbers.Numbers.TheVariants as numbers

-- Decimal digits, at least one.
abbrev pub is_digits : List ℕ → Bool
is_digits [] = false
is_digits (b ∷ s) = list_all is_ascii_digit (b ∷ s)

-- The number that a text is, if it has 32 bits.
abbrev pub number_in : List ℕ → Option ℕ
number_in s = if is_digits s then value_in s else None

abbrev pub is_inside : ℕ → Bool
is_inside b = not (b == 41)

abbrev pub is_before_comma : ℕ → Bool
is_before_comma b = not (b == 44)

-- The numbers, where these bytes are behind the first one: a comma and the second one, or none.
abbrev pub numbers_before : ℕ → List ℕ → Option Numbers
numbers_before first [] = Some (numbers.One first)
numbers_before first (b ∷ s) = option_map (λ second. numbers.Two first second) (number_in s)

-- The numbers between parentheses: one, or two with a comma between.
abbrev pub numbers_in : List ℕ → Option Numbers
numbers_in s = let k = prefix_len is_before_comma s in option_and_then (λ first. numbers_before first (drop k s)) (number_in (take k s))

-- The numbers that these bytes are, with what is behind the byte that closes them.
abbrev pub before_closing : List ℕ → List ℕ → Option (Numbers × List ℕ)
before_closing inside [] = None
before_closing inside (b ∷ behind) = option_map (λ found. (found, behind)) (numbers_in inside)

-- The numbers behind an opening parenthesis, and what is behind the closing one.
abbrev pub closed : List ℕ → Option (Numbers × List ℕ)
closed s = let k = prefix_len is_inside s in before_closing (take k s) (drop k s)

-- The numbers in the parentheses with which a text begins, if it does, and what is behind them.
abbrev pub numbers_at : List ℕ → Option (Numbers × List ℕ)
numbers_at [] = Some (numbers.None, [])
numbers_at (b ∷ s) = if b == 40 then closed s else Some (numbers.None, b ∷ s)
