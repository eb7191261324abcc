-- The paths of diffs. Source: MySQL's reference manual, "JSON Path Syntax".
use Rattle.std.specs.Prelude.{◌≡◌, ◌⊎◌, ℕ, zero, suc, ◌+◌, ◌-◌, ◌*◌, ◌^◌, ◌==◌, ◌&&◌, ◌||◌, Bool, false, List, [], ◌∷◌, length, map, take, drop, nat_lt, nat_le, if◌then◌else◌, Option, Some, None, option_map, Result, Ok, Err}
use Rattle.std.specs.Char.{is_ascii_digit}
use Rattle.std.specs.List.{prefix_len}
use Rattle.std.specs.Str.Parse.{digits_value}
use Rattle.binary_json_writing.specs.declared.paths.JsonPathLeg.{JsonPathLeg}
use Rattle.binary_json_writing.specs.declared.paths.JsonPathLeg.TheVariants as views
use Rattle.binary_json_writing.specs.declared.paths.JsonPath.{JsonPath}
use Rattle.binary_json_writing.specs.declared.paths.JsonPathError.{JsonPathError}
use Rattle.binary_json_writing.specs.declared.paths.JsonPathError.TheVariants as faults

-- A member by its name, and an element by its place, from the front or from the end; both are counted from 0.
pub data Leg : Type 0 where
  member : List ℕ → Leg
  element : ℕ → Leg
  from_end : ℕ → Leg

abbrev pub leg_of : JsonPathLeg → Leg
leg_of (views.Member name) = member name.items
leg_of (views.Element n) = element n
leg_of (views.FromEnd n) = from_end n

abbrev pub legs_of : JsonPath → List Leg
legs_of p = map leg_of p.legs.items

abbrev pub Read : Type 0 → Type 0
Read A = Result A JsonPathError

-- What is behind a byte, if the bytes begin with it.
abbrev pub behind : ℕ → List ℕ → Option (List ℕ)
behind b [] = None
behind b (c ∷ s) = if c == b then Some s else None

-- ---- names

-- Letters, digits, `_`, `$`, and bytes beyond ASCII.
abbrev pub is_name_byte : ℕ → Bool
is_name_byte b = nat_le 97 b && nat_le b 122 || nat_le 65 b && nat_le b 90 || nat_le 48 b && nat_le b 57 || b == 95 || b == 36 || nat_le 128 b

abbrev pub begins_with_digit : List ℕ → Bool
begins_with_digit [] = false
begins_with_digit (b ∷ s) = nat_le 48 b && nat_le b 57

-- A name without quotes: all bytes of names up to the first other one. The first is no digit.
unfoldable pub bare_in : List ℕ → Read (List ℕ × List ℕ)
bare_in s =
    let k = prefix_len is_name_byte s in
    if k == 0 || begins_with_digit s then Err faults.Name else Ok (take k s, drop k s)

-- What `\` and this byte stand for.
abbrev pub escape_of : ℕ → Option ℕ
escape_of e =
    if e == 34 || e == 92 || e == 47 then Some e
    else if e == 98 then Some 8 else if e == 102 then Some 12 else if e == 110 then Some 10 else if e == 114 then Some 13 else if e == 116 then Some 9
    else None

abbrev pub hex_of : ℕ → Option ℕ
hex_of b = if nat_le 48 b && nat_le b 57 then Some (b - 48) else if nat_le 97 b && nat_le b 102 then Some (b - 87) else if nat_le 65 b && nat_le b 70 then Some (b - 55) else None

-- The character of ASCII with this number.
abbrev pub ascii_of : Option ℕ → Option ℕ → List ℕ → Read (ℕ × List ℕ)
ascii_of (Some high) (Some low) s = if nat_lt high 8 then Ok (16 * high + low, s) else Err faults.Escape
ascii_of _ _ s = Err faults.Escape

-- Behind `\u`: two zeros, and two hexadecimal digits.
abbrev pub unicode_in : List ℕ → Read (ℕ × List ℕ)
unicode_in (a ∷ b ∷ c ∷ d ∷ s) = if a == 48 && b == 48 then ascii_of (hex_of c) (hex_of d) s else Err faults.Escape
unicode_in _ = Err faults.Escape

abbrev pub escape_by : Option ℕ → List ℕ → Read (ℕ × List ℕ)
escape_by None s = Err faults.Escape
escape_by (Some c) s = Ok (c, s)

-- Behind `\`.
abbrev pub escape_in : List ℕ → Read (ℕ × List ℕ)
escape_in [] = Err faults.Escape
escape_in (e ∷ s) = if e == 117 then unicode_in s else escape_by (escape_of e) s

-- A byte of a name in quotes, and what is behind it.
unfoldable pub unit_in : List ℕ → Read (ℕ × List ℕ)
unit_in [] = Err faults.Quote
unit_in (b ∷ s) = if b == 92 then escape_in s else Ok (b, s)

-- The first bytes of a name, and what is behind them, in front of a quote that isn't one of them.
abbrev pub Spells : List ℕ → List ℕ → List ℕ → Type 0
Spells [] s rest = s ≡ rest
Spells (c ∷ name) s rest = (behind 34 s ≡ None) × (others : List ℕ) × (unit_in s ≡ Ok (c, others)) × Spells name others rest

-- ---- places

abbrev pub small_number : ℕ → List ℕ → Option (ℕ × List ℕ)
small_number n s = if nat_lt n (2 ^ 32) then Some (n, s) else None

-- Decimal digits of a number below 2^32, and what is behind them.
unfoldable pub number_in : List ℕ → Option (ℕ × List ℕ)
number_in s =
    let k = prefix_len is_ascii_digit s in
    if k == 0 then None else small_number (digits_value 10 (take k s)) (drop k s)

-- `]` behind a place.
abbrev pub closed_by : (ℕ → Leg) → ℕ → Option (List ℕ) → Read (Leg × List ℕ)
closed_by leg n None = Err faults.Place
closed_by leg n (Some s) = Ok (leg n, s)

abbrev pub closed : (ℕ → Leg) → Option (ℕ × List ℕ) → Read (Leg × List ℕ)
closed leg None = Err faults.Place
closed leg (Some p) = closed_by leg p.0 (behind 93 p.1)

abbrev pub and_next : Option (List ℕ) → (List ℕ → Option (List ℕ)) → Option (List ℕ)
and_next None f = None
and_next (Some s) f = f s

-- Behind `last`.
abbrev pub last_in : List ℕ → Option (List ℕ)
last_in s = and_next (behind 108 s) (λ s. and_next (behind 97 s) (λ s. and_next (behind 115 s) (λ s. behind 116 s)))

abbrev pub from_last : Option (List ℕ) → List ℕ → Read (Leg × List ℕ)
from_last None s = closed_by from_end 0 (behind 93 s)
from_last (Some rest) s = closed from_end (number_in rest)

abbrev pub place_by : Option (List ℕ) → List ℕ → Read (Leg × List ℕ)
place_by None s = closed element (number_in s)
place_by (Some rest) s = from_last (behind 45 rest) rest

-- Behind `[`: a place from the front, `last`, or `last-` and a place from the end.
unfoldable pub place_in : List ℕ → Read (Leg × List ℕ)
place_in s = place_by (last_in s) s

-- ---- legs

-- What is read of a name in quotes: the name up to the next quote, or the refusal of a byte of it.
abbrev pub IsQuoted : Read (List ℕ × List ℕ) → List ℕ → Type 0
IsQuoted (Ok p) s = (others : List ℕ) × Spells p.0 s others × (behind 34 others ≡ Some p.1)
IsQuoted (Err e) s = (name others : List ℕ) × Spells name s others × (behind 34 others ≡ None) × (unit_in others ≡ Err e)

abbrev pub named : Read (List ℕ × List ℕ) → Read (Leg × List ℕ)
named (Ok p) = Ok (member p.0, p.1)
named (Err e) = Err e

-- Behind `.`: a name in quotes, or one without.
abbrev pub IsNamed : Read (Leg × List ℕ) → Option (List ℕ) → List ℕ → Type 0
IsNamed r (Some quoted) s = (q : Read (List ℕ × List ℕ)) × IsQuoted q quoted × (r ≡ named q)
IsNamed r None s = r ≡ named (bare_in s)

abbrev pub IsPlaced : Read (Leg × List ℕ) → Option (List ℕ) → Type 0
IsPlaced r (Some place) = r ≡ place_in place
IsPlaced r None = r ≡ Err faults.Leg

abbrev pub IsLegBy : Read (Leg × List ℕ) → Option (List ℕ) → List ℕ → Type 0
IsLegBy r (Some name) s = IsNamed r (behind 34 name) name
IsLegBy r None s = IsPlaced r (behind 91 s)

-- What is read of bytes that begin with a leg: the leg and what is behind it, or the refusal.
unfoldable pub IsLegIn : Read (Leg × List ℕ) → List ℕ → Type 0
IsLegIn r s = IsLegBy r (behind 46 s) s

-- The first legs, and what is behind them.
abbrev pub AreLegs : List Leg → List ℕ → List ℕ → Type 0
AreLegs [] s rest = s ≡ rest
AreLegs (l ∷ ls) s rest = (others : List ℕ) × IsLegIn (Ok (l, others)) s × AreLegs ls others rest

-- `$`, and legs up to the last byte.
abbrev pub IsPath : List Leg → List ℕ → Type 0
IsPath ls s = (rest : List ℕ) × (behind 36 s ≡ Some rest) × AreLegs ls rest []

-- How legs are refused: there are legs, and then bytes that are no leg.
abbrev pub AreRefused : JsonPathError → List ℕ → Type 0
AreRefused e s = (ls : List Leg) × (b : ℕ) × (others : List ℕ) × AreLegs ls s (b ∷ others) × IsLegIn (Err e) (b ∷ others)

-- How a path is refused: it has no `$`, or by its legs.
abbrev pub IsRefusedPath : JsonPathError → List ℕ → Type 0
IsRefusedPath e s = ((e ≡ faults.Root) × (behind 36 s ≡ None)) ⊎ ((rest : List ℕ) × (behind 36 s ≡ Some rest) × AreRefused e rest)

-- ---- the legs of a path, by a function

abbrev pub if_read : {A : Type 0} → Read A → Option A
if_read (Ok x) = Some x
if_read (Err e) = None

abbrev pub name_behind : (List ℕ → Option (List ℕ × List ℕ)) → Read (ℕ × List ℕ) → Option (List ℕ × List ℕ)
name_behind others (Ok p) = option_map (λ q. (p.0 ∷ q.0, q.1)) (others p.1)
name_behind others (Err e) = None

abbrev pub name_by : (List ℕ → Option (List ℕ × List ℕ)) → Option (List ℕ) → List ℕ → Option (List ℕ × List ℕ)
name_by others (Some rest) s = Some ([], rest)
name_by others None s = name_behind others (unit_in s)

-- A name of fewer bytes than these in front of a quote, and what is behind that.
unfoldable pub name_in : ℕ → List ℕ → Option (List ℕ × List ℕ)
name_in zero s = None
name_in (suc most) s = name_by (name_in most) (behind 34 s) s

abbrev pub named_in : Option (List ℕ) → List ℕ → Option (Leg × List ℕ)
named_in (Some quoted) s = option_map (λ p. (member p.0, p.1)) (name_in (length quoted) quoted)
named_in None s = if_read (named (bare_in s))

abbrev pub placed_in : Option (List ℕ) → Option (Leg × List ℕ)
placed_in (Some place) = if_read (place_in place)
placed_in None = None

abbrev pub leg_by : Option (List ℕ) → List ℕ → Option (Leg × List ℕ)
leg_by (Some name) s = named_in (behind 34 name) name
leg_by None s = placed_in (behind 91 s)

-- The first leg, and what is behind it.
unfoldable pub leg_in : List ℕ → Option (Leg × List ℕ)
leg_in s = leg_by (behind 46 s) s

abbrev pub legs_behind : (List ℕ → Option (List Leg)) → Option (Leg × List ℕ) → Option (List Leg)
legs_behind others (Some p) = option_map (λ ls. p.0 ∷ ls) (others p.1)
legs_behind others None = None

-- At most so many legs, up to the last byte.
unfoldable pub legs_in : ℕ → List ℕ → Option (List Leg)
legs_in most [] = Some []
legs_in zero (b ∷ s) = None
legs_in (suc most) (b ∷ s) = legs_behind (legs_in most) (leg_in (b ∷ s))

abbrev pub legs_if : Option (List ℕ) → Option (List Leg)
legs_if (Some s) = legs_in (length s) s
legs_if None = None

-- The legs of a path; None if the bytes are none. These are the legs that `IsPath` names (`paths_are_known`).
unfoldable pub path_legs : List ℕ → Option (List Leg)
path_legs s = legs_if (behind 36 s)
