-- The sign and the digits of decimal numbers are read back as they were written.
use Rattle.std.proofs.Common.{◌≡◌, ℕ, zero, suc, ◌+◌, ◌-◌, ◌*◌, ◌/◌, ◌%◌, ◌<◌, ◌≤◌, Bool, true, false, List, [], ◌∷◌, ◌++◌, length, take, drop, replicate, get_or, refl, sym, ap, ◌∙◌, append_assoc, arith}
use Rattle.std.specs.Prelude.{◌==◌, not, nat_lt, nat_le}
use Rattle.std.proofs.lemmas.Bool.{ltb-true, ltb-false, leb-true, leb-false, lt-ltb, le-ltb}
use Rattle.std.proofs.lemmas.List.{length-append, length-replicate, length-drop, get_or_append_left, get_or-append_right, get_or-replicate, get_or-drop, take-append-drop, take-take, take_all, take_more, drop-take, drop-drop}
use Rattle.byteorder.specs.Endian.{big_number}
use Rattle.binlog_wire.specs.Fields.{IsBytes}
use Rattle.binlog_values.specs.Contents.{digits_len, groups, magnitude}
use Rattle.binlog_values.specs.Texts.{last_digits}
use Rattle.binlog_values.specs.Decimals.{is_negative_decimal, groups_digits, decimal_digits}
use Rattle.binlog_values.proofs.DigitTexts.{last_more}
use Rattle.binlog_row_writing.specs.Decimals.{AreDigits, IsDecimal, digit_at, group_number, group_bytes, groups_bytes, decimal_bytes}
use Rattle.binlog_row_writing.specs.DecimalFits.{digit_small, digit_left_out, digit_given, group_len, sum_len, AreNines, are_nines, are_bytes, number_back, sign_back}

-- ---- the digits of one group

-- As many digits as the precision, with zeros for those that are left out in front.
abbrev padded : ℕ → List ℕ → List ℕ
padded precision digits = replicate (precision - length digits) 0 ++ digits

zeros_len : (n : ℕ) → length (replicate {A = ℕ} n 0) ≡ n
zeros_len n = length-replicate n _

padded_len : (precision : ℕ) (digits : List ℕ) → length digits ≤ precision → length (padded precision digits) ≡ precision
padded_len precision digits enough =
    let zeros : List ℕ = replicate (precision - length digits) 0 in
    omega (arith, length-append zeros digits, zeros_len (precision - length digits))

padded_by : (precision index : ℕ) (digits : List ℕ) (t : Bool) → nat_lt index (precision - length digits) ≡ t → length digits ≤ precision
    → digit_at precision digits index ≡ get_or (padded precision digits) index 0
padded_by precision index digits true is enough =
    let missing : ℕ = precision - length digits in
    let zeros : List ℕ = replicate missing 0 in
    let less : index < missing = ltb-true index missing is in
    let front : index < length zeros = omega (arith, less, zeros_len missing) in
    let none : get_or zeros index 0 ≡ 0 = get_or-replicate missing index 0 0 less in
    digit_left_out precision index digits less ∙ sym (get_or_append_left zeros digits 0 index front ∙ none)
padded_by precision index digits false is enough =
    let missing : ℕ = precision - length digits in
    let zeros : List ℕ = replicate missing 0 in
    let le : missing ≤ index = ltb-false index missing is in
    digit_given precision index digits enough le ∙ sym (get_or-append_right zeros digits missing index 0 (zeros_len missing) le)

padded_at : (precision index : ℕ) (digits : List ℕ) → length digits ≤ precision → digit_at precision digits index ≡ get_or (padded precision digits) index 0
padded_at precision index digits enough = padded_by precision index digits (nat_lt index (precision - length digits)) refl enough

-- The digits of the number of a group are those from its index on.
group_digits : (precision count at : ℕ) (digits : List ℕ) → AreDigits digits → length digits ≤ precision → at + count ≤ precision
    → last_digits count (group_number precision digits count at) ≡ take count (drop at (padded precision digits))
unfolding last_digits group_number
group_digits precision zero at digits all enough room = refl
group_digits precision (suc count) at digits all enough room =
    let n : ℕ = group_number precision digits count at in
    let d : ℕ = digit_at precision digits (at + count) in
    let rest : List ℕ = drop at (padded precision digits) in
    let small : d ≤ 9 = digit_small precision (at + count) digits all in
    let high : (n * 10 + d) / 10 ≡ n = omega (arith, small) in
    let low : (n * 10 + d) % 10 ≡ d = omega (arith, small) in
    let here : d ≡ get_or rest count 0 = padded_at precision (at + count) digits enough ∙ sym (get_or-drop at (padded precision digits) count 0) in
    let long : count < length rest = omega (arith, room, length-drop at (padded precision digits), padded_len precision digits enough) in
    let before : last_digits count n ≡ take count rest = group_digits precision count at digits all enough (omega arith) in
    let one : count + 1 ≡ suc count = omega arith in
    last_more count (n * 10 + d) ∙ ap (λ (m : ℕ). last_digits count m ++ ((n * 10 + d) % 10) ∷ []) high ∙ ap (λ (e : ℕ). last_digits count n ++ e ∷ []) (low ∙ here)
    ∙ ap (λ (t : List ℕ). t ++ get_or rest count 0 ∷ []) before ∙ sym (take_more rest count 0 long) ∙ ap (λ (k : ℕ). take k rest) one

-- ---- the digits of all groups

-- The number of digits of groups.
abbrev total : List ℕ → ℕ
total [] = 0
total (count ∷ counts) = count + total counts

nines_total : (n tail : ℕ) → total (replicate n 9 ++ tail ∷ []) ≡ 9 * n + tail
nines_total zero tail = omega arith
nines_total (suc n) tail = let ih = nines_total n tail in omega (arith, ih)

groups_total : (precision scale : ℕ) → scale ≤ precision → total (groups precision scale) ≡ precision
groups_total precision scale most = let e = nines_total ((precision - scale) / 9 + scale / 9) (scale % 9) in omega (arith, most, e)

take_both : (a b : ℕ) (s : List ℕ) → take a s ++ take b (drop a s) ≡ take (a + b) s
take_both a b s =
    ap (λ (t : List ℕ). t ++ take b (drop a s)) (sym (take-take a (a + b) s (omega arith))) ∙ ap (λ (t : List ℕ). take a (take (a + b) s) ++ t) (sym (drop-take a b s))
    ∙ take-append-drop a (take (a + b) s)

groups_back : (precision : ℕ) (is_negative : Bool) (digits counts : List ℕ) (at place : ℕ) (s before : List ℕ) → AreDigits digits → length digits ≤ precision → AreNines counts
    → at + total counts ≤ precision → IsBytes s → nat_le 128 (get_or s 0 0) ≡ not is_negative → s ≡ before ++ groups_bytes precision is_negative digits counts at place
    → length before ≡ place → groups_digits counts (drop place (magnitude s)) ≡ take (total counts) (drop at (padded precision digits))
groups_back precision is_negative digits [] at place s before all enough most room bytes sign split size = refl
groups_back precision is_negative digits (count ∷ counts) at place s before all enough most room bytes sign split size =
    let len : ℕ = digits_len count in
    let whole : List ℕ = padded precision digits in
    let here : List ℕ = group_bytes precision is_negative digits count at (place == 0) in
    let rest : List ℕ = groups_bytes precision is_negative digits counts (at + count) (place + len) in
    let number = number_back precision is_negative digits count at place s before rest all most.0 bytes sign split size in
    let first : last_digits count (big_number len (drop place (magnitude s))) ≡ take count (drop at whole) =
    ap (λ (n : ℕ). last_digits count n) number ∙ group_digits precision count at digits all enough (omega (arith, room)) in
    let others : groups_digits counts (drop (place + len) (magnitude s)) ≡ take (total counts) (drop (at + count) whole) =
    groups_back precision is_negative digits counts (at + count) (place + len) s (before ++ here) all enough most.1 (omega (arith, room)) bytes sign
    (split ∙ sym (append_assoc before here rest)) (sum_len before here place len size (group_len precision count at is_negative (place == 0) digits)) in
    let second : groups_digits counts (drop len (drop place (magnitude s))) ≡ take (total counts) (drop count (drop at whole)) =
    ap (λ (t : List ℕ). groups_digits counts t) (drop-drop len place (magnitude s)) ∙ others ∙ ap (λ (t : List ℕ). take (total counts) t) (sym (drop-drop count at whole)) in
    ap (λ (t : List ℕ). t ++ groups_digits counts (drop len (drop place (magnitude s)))) first ∙ ap (λ (t : List ℕ). take count (drop at whole) ++ t) second
    ∙ take_both count (total counts) (drop at whole)

-- The digits that are read are those that were written, and zeros in front of them up to the precision.
pub decimal_digits_back : (precision scale : ℕ) (is_negative : Bool) (digits : List ℕ) → IsDecimal precision scale digits
    → decimal_digits precision scale (decimal_bytes precision scale is_negative digits) ≡ replicate (precision - length digits) 0 ++ digits
decimal_digits_back precision scale is_negative digits is =
    let whole : List ℕ = padded precision digits in
    let all : ℕ = total (groups precision scale) in
    let count : all ≡ precision = groups_total precision scale is.2 in
    let s : List ℕ = decimal_bytes precision scale is_negative digits in
    let back : groups_digits (groups precision scale) (magnitude s) ≡ take all whole =
    groups_back precision is_negative digits (groups precision scale) 0 0 s [] is.5 is.4 (are_nines precision scale) (omega (arith, count))
    (are_bytes precision is_negative digits (groups precision scale) 0 0) (sign_back precision scale is_negative digits is.0 is.2 is.5) refl refl in
    back ∙ take_all all whole (omega (arith, count, padded_len precision digits is.4))

-- ---- the sign

negative_by : (byte : ℕ) (is_negative : Bool) → nat_le 128 byte ≡ not is_negative → nat_lt byte 128 ≡ is_negative
negative_by byte true is = lt-ltb _ _ (leb-false 128 byte is)
negative_by byte false is = le-ltb _ _ (leb-true 128 byte is)

-- The sign that is read is the one that was written.
pub decimal_sign_back : (precision scale : ℕ) (is_negative : Bool) (digits : List ℕ) → IsDecimal precision scale digits
    → is_negative_decimal (decimal_bytes precision scale is_negative digits) ≡ is_negative
decimal_sign_back precision scale is_negative digits is = negative_by _ is_negative (sign_back precision scale is_negative digits is.0 is.2 is.5)
