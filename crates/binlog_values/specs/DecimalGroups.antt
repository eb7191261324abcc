-- The text of decimal numbers, group by group.
use Rattle.std.specs.Prelude.{ℕ, zero, suc, ◌+◌, ◌-◌, ◌*◌, ◌/◌, ◌%◌, ◌==◌, ◌||◌, not, Bool, true, false, List, [], ◌∷◌, ◌++◌, drop, if◌then◌else◌}
use Rattle.std.specs.Fmt.{decimal}
use Rattle.byteorder.specs.Endian.{big_number}
use Rattle.binlog_values.specs.Contents.{digits_len, magnitude}
use Rattle.binlog_values.specs.Decimals.{is_negative_decimal}
use Rattle.binlog_values.specs.Texts.{digits_text, sign_text}

-- The number of the group of this many digits, at most nine, from this place of the digits' bytes.
abbrev pub group_at : ℕ → ℕ → List ℕ → ℕ
group_at place digits s = big_number (digits_len digits) (drop place s)

-- A group before the point. Zeros in front of the first digit that isn't zero are left out; `is_begun` says that there is
-- such a digit before the group.
abbrev pub group_text : Bool → ℕ → ℕ → List ℕ
group_text true digits n = digits_text digits n
group_text false digits n = if n == 0 then [] else decimal n

-- There is a digit that isn't zero before or in the group.
abbrev pub is_begun_by : Bool → ℕ → Bool
is_begun_by is_begun n = is_begun || not (n == 0)

-- So many groups of nine digits before the point; a zero if all digits are.
abbrev pub nines_text : ℕ → ℕ → Bool → List ℕ → List ℕ
nines_text zero place is_begun s = if is_begun then [] else 48 ∷ []
nines_text (suc count) place is_begun s =
    group_text is_begun 9 (group_at place 9 s) ++ nines_text count (place + 4) (is_begun_by is_begun (group_at place 9 s)) s

-- The digits before the point: a group of fewer than nine digits, and groups of nine.
unfoldable pub whole_text : ℕ → List ℕ → List ℕ
whole_text digits s =
    group_text false (digits % 9) (group_at 0 (digits % 9) s)
    ++ nines_text (digits / 9) (digits_len (digits % 9)) (is_begun_by false (group_at 0 (digits % 9) s)) s

-- The digits after the point: groups of nine, and a group of fewer.
abbrev pub part_text : ℕ → ℕ → ℕ → List ℕ → List ℕ
part_text zero place tail s = digits_text tail (group_at place tail s)
part_text (suc count) place tail s = digits_text 9 (group_at place 9 s) ++ part_text count (place + 4) tail s

-- The point and the digits after it, if there are any.
unfoldable pub scale_text : ℕ → ℕ → List ℕ → List ℕ
scale_text scale place s = if scale == 0 then [] else 46 ∷ [] ++ part_text (scale / 9) place (scale % 9) s

-- The place behind the digits before the point.
abbrev pub whole_len : ℕ → ℕ
whole_len digits = digits_len (digits % 9) + 4 * (digits / 9)

-- A decimal number of this precision and scale, by its bytes.
unfoldable pub grouped_text : ℕ → ℕ → List ℕ → List ℕ
grouped_text precision scale s =
    sign_text (is_negative_decimal s) ++ whole_text (precision - scale) (magnitude s) ++ scale_text scale (whole_len (precision - scale)) (magnitude s)

-- ---- numbers of groups

-- The numbers of so many groups of nine digits from this place.
abbrev pub nines_at : ℕ → ℕ → List ℕ → List ℕ
nines_at zero place s = []
nines_at (suc count) place s = group_at place 9 s ∷ nines_at count (place + 4) s

-- The digits of groups of nine, each by its number.
abbrev pub groups_text : List ℕ → List ℕ
groups_text [] = []
groups_text (group ∷ groups) = digits_text 9 group ++ groups_text groups

-- The point and so many digits behind it: groups of nine, and those of the last number. No digits: nothing.
unfoldable pub point_text : ℕ → List ℕ → ℕ → List ℕ
point_text scale groups last = if scale == 0 then [] else 46 ∷ (groups_text groups ++ digits_text (scale % 9) last)

-- A decimal number with its sign: the digits of its first number, groups of nine, and what is behind the point.
unfoldable pub parts_text : Bool → ℕ → List ℕ → ℕ → List ℕ → ℕ → List ℕ
parts_text is_negative first whole scale part last = sign_text is_negative ++ (decimal first ++ (groups_text whole ++ point_text scale part last))
