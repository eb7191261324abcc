-- The parts at the start of a text. Each is read with the whitespace after it, so what is left begins with the next part.
use Rattle.std.specs.Prelude.{◌≡◌, ◌≤◌, ⊤, ℕ, ◌+◌, ◌^◌, ◌==◌, ◌&&◌, ◌||◌, Bool, false, nat_lt, nat_le, List, [], ◌∷◌, take, drop, Option, Some, None, Result, Ok, Err, if◌then◌else◌}
use Rattle.std.specs.Char.{is_ascii_digit}
use Rattle.std.specs.List.{prefix_len}
use Rattle.std.specs.Str.Parse.{digits_value}
use Rattle.uuid.specs.Text.{parsed_hyphenated}
use Rattle.binlog_variable_fields.specs.Tags.{is_first, is_later, is_tag}
use Rattle.binlog_variable_fields.specs.declared.gno_interval.GnoInterval.{GnoInterval}
use Rattle.binlog_gtid_text.specs.declared.error.Fault.{Fault}
use Rattle.binlog_gtid_text.specs.declared.error.GtidTextFault.TheVariants as faults
use Rattle.binlog_gtid_text.specs.declared.piece.Piece.{Piece}
use Rattle.binlog_gtid_text.specs.declared.piece.Piece.TheVariants as pieces
use Rattle.binlog_gtid_text.specs.Faults.{fault}

-- ---- steps

infixl 10 ◌>>=◌
abbrev pub ◌>>=◌ : {A B : Type 0} → Result A Fault → (A → Result B Fault) → Result B Fault
(Ok x) >>= f = f x
(Err e) >>= f = Err e

-- What a function returned, seen by a view, is what is read.
abbrev pub Gives : {X Y : Type 0} → (X → Y) → Result X Fault → Result Y Fault → Type 0
Gives view (Ok x) read = read ≡ Ok (view x)
Gives view (Err e) read = read ≡ Err e

-- ---- whitespace and separators

-- Space, tab, newline, vertical tab, form feed, carriage return.
abbrev pub is_space : ℕ → Bool
is_space b = (b == 32) || (nat_le 9 b && nat_le b 13)

-- What is left after whitespace.
abbrev pub skip : List ℕ → List ℕ
skip s = drop (prefix_len is_space s) s

-- What is left after a byte and whitespace, if it begins with the byte.
abbrev pub after : ℕ → List ℕ → Option (List ℕ)
after b [] = None
after b (c ∷ s) = if c == b then Some (skip s) else None

-- ---- UUIDs

abbrev pub uuid_by : List ℕ → Option (List ℕ) → Result (List ℕ × List ℕ) Fault
uuid_by s None = Err (fault faults.Uuid s)
uuid_by s (Some sid) = Ok (sid, skip (drop 36 s))

-- 36 bytes: 32 hexadecimal digits, in either case, with hyphens after the first 8, 12, 16 and 20.
unfoldable pub uuid_at : List ℕ → Result (List ℕ × List ℕ) Fault
uuid_at s = uuid_by s (parsed_hyphenated (take 36 s))

-- ---- numbers

-- The value of decimal digits, if it is below 2^63.
abbrev pub value_in : List ℕ → Option ℕ
value_in digits = if nat_lt (digits_value 10 digits) (2 ^ 63) then Some (digits_value 10 digits) else None

abbrev pub number_by : List ℕ → ℕ → Option ℕ → Result (ℕ × List ℕ) Fault
number_by s k None = Err (fault faults.Range s)
number_by s k (Some n) = Ok (n, skip (drop k s))

-- All decimal digits up to the first other byte, and their value.
unfoldable pub number_at : List ℕ → Result (ℕ × List ℕ) Fault
number_at s =
    let k = prefix_len is_ascii_digit s in
    if k == 0 then Err (fault faults.Number s) else number_by s k (value_in (take k s))

-- The number after the last one of an interval that begins with n: after a `-` the last number comes, else n is the last.
abbrev pub interval_by : ℕ → List ℕ → Option (List ℕ) → Result (GnoInterval × List ℕ) Fault
interval_by n s None = Ok (record { start = n; end = n + 1 }, s)
interval_by n s (Some rest) = number_at rest >>= λ last. Ok (record { start = n; end = last.0 + 1 }, last.1)

-- A number from 1 on, or two with a `-` between.
unfoldable pub interval_at : List ℕ → Result (GnoInterval × List ℕ) Fault
interval_at s = number_at s >>= λ first. if first.0 == 0 then Err (fault faults.Range s) else interval_by first.0 first.1 (after 45 first.1)

-- ---- tags

-- It begins with a letter or `_`.
abbrev pub begins_tag : List ℕ → Bool
begins_tag [] = false
begins_tag (b ∷ s) = is_first b

abbrev pub colon_by : List ℕ → List ℕ → Option (List ℕ) → Result (Option (List ℕ) × List ℕ) Fault
colon_by tag s None = Err (fault faults.Colon s)
colon_by tag s (Some rest) = Ok (Some tag, rest)

-- All letters, digits and `_` up to the first other byte, and a `:`.
unfoldable pub named_at : List ℕ → Result (Option (List ℕ) × List ℕ) Fault
named_at s =
    let k = prefix_len is_later s in
    if is_tag (take k s) then colon_by (take k s) (skip (drop k s)) (after 58 (skip (drop k s))) else Err (fault faults.Tag s)

-- A tag and a `:`, or nothing.
unfoldable pub tag_at : List ℕ → Result (Option (List ℕ) × List ℕ) Fault
tag_at s = if begins_tag s then named_at s else Ok (None, s)

-- ---- pieces

unfoldable pub source_at : List ℕ → Result (Piece × List ℕ) Fault
source_at s = uuid_at s >>= λ sid. Ok (pieces.Source sid.0, sid.1)

unfoldable pub numbers_at : List ℕ → Result (Piece × List ℕ) Fault
numbers_at s = tag_at s >>= λ tag. interval_at tag.1 >>= λ i. Ok (pieces.Numbers tag.0 i.0, i.1)

abbrev pub piece_by : List ℕ → Option (List ℕ) → Option (List ℕ) → Result (Piece × List ℕ) Fault
piece_by s (Some rest) colon = source_at rest
piece_by s None (Some rest) = numbers_at rest
piece_by s None None = Err (fault faults.Separator s)

-- A source after a `,`, or numbers after a `:`.
unfoldable pub piece_at : List ℕ → Result (Piece × List ℕ) Fault
piece_at s = piece_by s (after 44 s) (after 58 s)

-- The numbers of the piece are from 1 to 2^63 - 1.
abbrev pub IsInRange : Piece → Type 0
IsInRange (pieces.Source sid) = ⊤
IsInRange (pieces.Numbers tag i) = (1 ≤ i.start) × (i.end ≤ 2 ^ 63)
