-- The parts at the start of a text, each with the byte that ends it.
use Rattle.std.specs.Prelude.{◌≡◌, ℕ, ◌^◌, ◌==◌, ◌||◌, ◌&&◌, Bool, false, not, nat_lt, List, [], ◌∷◌, take, drop, Option, Some, None, Result, Ok, Err, if◌then◌else◌}
use Rattle.std.specs.Char.{is_ascii_digit}
use Rattle.std.specs.List.{list_all, prefix_len}
use Rattle.std.specs.Str.{is_utf8}
use Rattle.std.specs.Str.Lines.{strip_carriage_return}
use Rattle.std.specs.Str.Parse.{digits_value}
use Rattle.column_files.specs.declared.error.Fault.{Fault}
use Rattle.column_files.specs.declared.error.ColumnFileFault.TheVariants as faults
use Rattle.column_files.specs.Faults.{fault}
use Rattle.column_files.specs.Fields.{field_text}

-- ---- steps

infixl 10 ◌>>=◌
abbrev pub ◌>>=◌ : {A B : Type 0} → Result A Fault → (A → Result B Fault) → Result B Fault
(Ok x) >>= f = f x
(Err e) >>= f = Err e

-- What a function returned, seen by a view, is what is read.
abbrev pub Gives : {X Y : Type 0} → (X → Y) → Result X Fault → Result Y Fault → Type 0
Gives view (Ok x) read = read ≡ Ok (view x)
Gives view (Err e) read = read ≡ Err e

-- ---- fields

-- The byte doesn't end a field: it is neither a tab nor a line feed.
abbrev pub is_inside : ℕ → Bool
is_inside b = not ((b == 9) || (b == 10))

-- What is left behind the byte that ends a field.
abbrev pub ended : (end : ℕ) → List ℕ → Result (List ℕ) Fault
ended end [] = Err (fault faults.Fields [])
ended end (b ∷ rest) = if b == end then Ok rest else Err (fault faults.Fields (b ∷ rest))

abbrev pub text_or : (s : List ℕ) → Option (List ℕ) → Result (List ℕ) Fault
text_or s None = Err (fault faults.Escape s)
text_or s (Some text) = Ok text

-- The text of the bytes of a field that begins there.
abbrev pub text_of : (s raw : List ℕ) → Result (List ℕ) Fault
text_of s raw = if is_utf8 raw then text_or s (field_text raw) else Err (fault faults.Encoding s)

-- The text of all bytes up to the first tab or line feed, which has to be this one.
unfoldable pub field_at : (end : ℕ) → List ℕ → Result (List ℕ × List ℕ) Fault
field_at end s = let k = prefix_len is_inside s in text_of s (take k s) >>= λ text. ended end (drop k s) >>= λ left. Ok (text, left)

-- The text of the last field of a line: the line ends with a line feed, and a carriage return before it is part of that end.
unfoldable pub last_field_at : List ℕ → Result (List ℕ × List ℕ) Fault
last_field_at s = let k = prefix_len is_inside s in text_of s (strip_carriage_return (take k s)) >>= λ text. ended 10 (drop k s) >>= λ left. Ok (text, left)

-- ---- numbers

-- The value of decimal digits, if it has 32 bits.
abbrev pub value_in : List ℕ → Option ℕ
value_in digits = if nat_lt (digits_value 10 digits) (2 ^ 32) then Some (digits_value 10 digits) else None

-- A number from 1 on in decimal digits, without a 0 before them.
abbrev pub is_number : List ℕ → Bool
is_number [] = false
is_number (b ∷ s) = not (b == 48) && list_all is_ascii_digit (b ∷ s)

-- The number, if it has 32 bits.
abbrev pub number_in : List ℕ → Option ℕ
number_in s = if is_number s then value_in s else None

abbrev pub number_by : (s rest : List ℕ) → Option ℕ → Result (ℕ × List ℕ) Fault
number_by s rest None = Err (fault faults.Position s)
number_by s rest (Some n) = ended 9 rest >>= λ left. Ok (n, left)

-- The number that all bytes up to the first tab or line feed are, which has to be a tab.
unfoldable pub number_at : List ℕ → Result (ℕ × List ℕ) Fault
number_at s = let k = prefix_len is_inside s in number_by s (drop k s) (number_in (take k s))
