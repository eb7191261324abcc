-- Laws of the bytes of decimal numbers.
use Rattle.std.proofs.Common.{◌≡◌, ℕ, zero, suc, ◌+◌, ◌-◌, ◌*◌, ◌/◌, ◌%◌, ◌^◌, ◌<◌, ◌≤◌, Bool, true, false, cond, List, [], ◌∷◌, ◌++◌, length, drop, replicate, get_or, refl, sym, ap, subst, ◌∙◌, append_assoc, arith}
use Rattle.std.specs.Prelude.{◌&&◌, ◌==◌, not, nat_lt, nat_le}
use Rattle.std.proofs.lemmas.Bool.{lt-ltb, le-ltb, le-leb, lt-leb, eqb-true}
use Rattle.std.proofs.lemmas.List.{length-append, drop-drop, drop_at}
use Rattle.std.specs.Int.{byte_at}
use Rattle.std.proofs.Math.Nat.{pow-le-pow_right, pow-succ'}
use Rattle.byteorder.specs.Endian.{big_bytes, big_number}
use Rattle.byteorder.specs.Numbers.{big_number-reads_back, length-bytes_high_first}
use Rattle.binlog_wire.specs.Fields.{IsBytes}
use Rattle.binlog_values.specs.BigNumbers.{bytes_of_big}
use Rattle.binlog_values.specs.Contents.{digits_len, groups, groups_len, decimal_len, magnitude, groups_fit, is_decimal_bytes}
use Rattle.binlog_values.specs.DecimalLaws.{adjusted, group_is}
use Rattle.binlog_row_writing.specs.Decimals.{AreDigits, digit_at, group_number, stored_number, group_bytes, groups_bytes, decimal_bytes}

-- ---- digits

small_by : (t : Bool) (d : ℕ) → d ≤ 9 → cond t 0 d ≤ 9
small_by true d h = omega arith
small_by false d h = h

digit_within : (digits : List ℕ) (i : ℕ) → AreDigits digits → get_or digits i 0 ≤ 9
digit_within [] i all = omega arith
digit_within (d ∷ digits) zero all = all 0 0 (omega arith)
digit_within (d ∷ digits) (suc i) all = digit_within digits i (λ k e less. all (suc k) e (omega arith))

pub digit_small : (precision index : ℕ) (digits : List ℕ) → AreDigits digits → digit_at precision digits index ≤ 9
unfolding digit_at
digit_small precision index digits all =
    small_by (nat_lt (index + length digits) precision) (get_or digits (index + length digits - precision) 0) (digit_within digits (index + length digits - precision) all)

-- The digit in the code's words.
pub digit_left_out : (precision index : ℕ) (digits : List ℕ) → index < precision - length digits → digit_at precision digits index ≡ 0
unfolding digit_at
digit_left_out precision index digits less =
    let test : nat_lt (index + length digits) precision ≡ true = lt-ltb _ _ (omega arith) in
    rw test refl

pub digit_given : (precision index : ℕ) (digits : List ℕ) → length digits ≤ precision → precision - length digits ≤ index → digit_at precision digits index ≡ get_or digits (index - (precision - length digits)) 0
unfolding digit_at
digit_given precision index digits enough le =
    let test : nat_lt (index + length digits) precision ≡ false = le-ltb _ _ (omega arith) in
    let place : index + length digits - precision ≡ index - (precision - length digits) = omega arith in
    rw (test, place) refl

-- No digit yet.
pub group_start : (precision at : ℕ) (digits : List ℕ) → 0 ≡ group_number precision digits (at - at) at
unfolding group_number
group_start precision at digits =
    let none : at - at ≡ 0 = omega arith in
    rw none refl

-- One more digit.
pub group_step : (precision index at number digit : ℕ) (digits : List ℕ) → at ≤ index → number ≡ group_number precision digits (index - at) at
    → digit ≡ digit_at precision digits index → number * 10 + digit ≡ group_number precision digits (index + 1 - at) at
unfolding group_number
group_step precision index at number digit digits le same is =
    let count : index + 1 - at ≡ suc (index - at) = omega arith in
    let place : at + (index - at) ≡ index = omega arith in
    rw (count, place, same, is) refl

group_small : (precision count at : ℕ) (digits : List ℕ) → AreDigits digits → group_number precision digits count at < 10 ^ count
unfolding group_number
group_small precision zero at digits all = omega arith
group_small precision (suc count) at digits all =
    let before = group_small precision count at digits all in
    let digit = digit_small precision (at + count) digits all in
    let power : 10 ^ suc count ≡ 10 * 10 ^ count = pow-succ' 10 count in
    omega (arith, before, digit, power)

-- At most nine digits.
pub group_bound : (precision count at : ℕ) (digits : List ℕ) → AreDigits digits → count ≤ 9 → group_number precision digits count at < 1000000000
group_bound precision count at digits all most =
    let less = group_small precision count at digits all in
    let power : 10 ^ count ≤ 10 ^ 9 = pow-le-pow_right (omega arith) most in
    omega (arith, less, power)

pub number_bound : (precision count at number : ℕ) (digits : List ℕ) → number ≡ group_number precision digits count at → AreDigits digits → count ≤ 9 → number < 1000000000
number_bound precision count at number digits same all most = omega (arith, same, group_bound precision count at digits all most)

lt_of : (a b c : ℕ) → a < b → b ≤ c → a < c
lt_of a b c less le = omega arith

half_by : (count : ℕ) → 1 ≤ count → count ≤ 9 → 10 ^ count ≤ 256 ^ digits_len count / 2
half_by zero some most = absurd (omega arith)
half_by (suc zero) some most = omega arith
half_by (suc (suc zero)) some most = omega arith
half_by (suc (suc (suc zero))) some most = omega arith
half_by (suc (suc (suc (suc zero)))) some most = omega arith
half_by (suc (suc (suc (suc (suc zero))))) some most = omega arith
half_by (suc (suc (suc (suc (suc (suc zero)))))) some most = omega arith
half_by (suc (suc (suc (suc (suc (suc (suc zero))))))) some most = omega arith
half_by (suc (suc (suc (suc (suc (suc (suc (suc zero)))))))) some most = omega arith
half_by (suc (suc (suc (suc (suc (suc (suc (suc (suc zero))))))))) some most = omega arith
half_by (suc (suc (suc (suc (suc (suc (suc (suc (suc (suc count)))))))))) some most = absurd (omega arith)

-- The number of a group is below half of what its bytes can hold.
pub group_half : (precision count at : ℕ) (digits : List ℕ) → AreDigits digits → 1 ≤ count → count ≤ 9 → group_number precision digits count at < 256 ^ digits_len count / 2
group_half precision count at digits all some most = lt_of (group_number precision digits count at) (10 ^ count) (256 ^ digits_len count / 2) (group_small precision count at digits all) (half_by count some most)

-- The stored number fits its bytes.
pub stored_small : (is_first is_negative : Bool) (all n : ℕ) → n < all / 2 → stored_number is_first is_negative all n < all
stored_small true false all n less = omega arith
stored_small true true all n less = omega arith
stored_small false false all n less = omega arith
stored_small false true all n less = omega arith

pub no_bytes : (precision at : ℕ) (is_negative is_first : Bool) (digits : List ℕ) → group_bytes precision is_negative digits 0 at is_first ≡ []
unfolding group_bytes
no_bytes precision at is_negative is_first digits = refl

-- A group of no digits has no bytes.
pub none_at : (precision count at : ℕ) (is_negative is_first : Bool) (digits : List ℕ) → count ≡ 0 → group_bytes precision is_negative digits count at is_first ≡ []
none_at precision count at is_negative is_first digits none =
    subst (λ (n : ℕ). group_bytes precision is_negative digits n at is_first ≡ []) (sym none) (no_bytes precision at is_negative is_first digits)

pub group_len : (precision count at : ℕ) (is_negative is_first : Bool) (digits : List ℕ) → length (group_bytes precision is_negative digits count at is_first) ≡ digits_len count
unfolding group_bytes
group_len precision count at is_negative is_first digits =
    length-bytes_high_first (digits_len count) (stored_number is_first is_negative (256 ^ digits_len count) (group_number precision digits count at))

group_are_bytes : (precision count at : ℕ) (is_negative is_first : Bool) (digits : List ℕ) → IsBytes (group_bytes precision is_negative digits count at is_first)
unfolding group_bytes
group_are_bytes precision count at is_negative is_first digits =
    bytes_of_big (digits_len count) (stored_number is_first is_negative (256 ^ digits_len count) (group_number precision digits count at))

-- ---- the bytes of all groups

bytes_append : (a b : List ℕ) → IsBytes a → IsBytes b → IsBytes (a ++ b)
bytes_append [] b fa fb i = fb i
bytes_append (x ∷ a) b fa fb zero = fa 0
bytes_append (x ∷ a) b fa fb (suc i) = bytes_append a b (λ j. fa (suc j)) fb i

pub are_bytes : (precision : ℕ) (is_negative : Bool) (digits counts : List ℕ) (at place : ℕ) → IsBytes (groups_bytes precision is_negative digits counts at place)
are_bytes precision is_negative digits [] at place = λ i. omega arith
are_bytes precision is_negative digits (count ∷ counts) at place =
    bytes_append (group_bytes precision is_negative digits count at (place == 0)) (groups_bytes precision is_negative digits counts (at + count) (place + digits_len count))
    (group_are_bytes precision count at is_negative (place == 0) digits) (are_bytes precision is_negative digits counts (at + count) (place + digits_len count))

pub sum_len : (here rest : List ℕ) (a b : ℕ) → length here ≡ a → length rest ≡ b → length (here ++ rest) ≡ a + b
sum_len here rest a b first second = omega (arith, length-append here rest)

pub bytes_count : (precision : ℕ) (is_negative : Bool) (digits counts : List ℕ) (at place : ℕ) → length (groups_bytes precision is_negative digits counts at place) ≡ groups_len counts
bytes_count precision is_negative digits [] at place = refl
bytes_count precision is_negative digits (count ∷ counts) at place =
    sum_len (group_bytes precision is_negative digits count at (place == 0)) (groups_bytes precision is_negative digits counts (at + count) (place + digits_len count)) (digits_len count) (groups_len counts)
    (group_len precision count at is_negative (place == 0) digits) (bytes_count precision is_negative digits counts (at + count) (place + digits_len count))

-- ---- the sign

high_byte : (k n : ℕ) → k ≤ 3 → 256 ^ suc k / 2 ≤ n → n < 256 ^ suc k → 128 ≤ byte_at k n
high_byte zero n most some less = omega arith
high_byte (suc zero) n most some less = omega arith
high_byte (suc (suc zero)) n most some less = omega arith
high_byte (suc (suc (suc zero))) n most some less = omega arith
high_byte (suc (suc (suc (suc k)))) n most some less = absurd (omega arith)

low_byte : (k n : ℕ) → k ≤ 3 → n < 256 ^ suc k / 2 → byte_at k n < 128
low_byte zero n most less = omega arith
low_byte (suc zero) n most less = omega arith
low_byte (suc (suc zero)) n most less = omega arith
low_byte (suc (suc (suc zero))) n most less = omega arith
low_byte (suc (suc (suc (suc k)))) n most less = absurd (omega arith)

sign_by : (k n : ℕ) (is_negative : Bool) → k ≤ 3 → n < 256 ^ suc k / 2 → nat_le 128 (byte_at k (stored_number true is_negative (256 ^ suc k) n)) ≡ not is_negative
sign_by k n false most less = le-leb _ _ (high_byte k (256 ^ suc k / 2 + n) most (omega arith) (omega arith))
sign_by k n true most less = lt-leb _ _ (low_byte k (256 ^ suc k / 2 - 1 - n) most (omega arith))

len_some : (count : ℕ) → 1 ≤ count → count ≤ 9 → (k : ℕ) × (digits_len count ≡ suc k) × (k ≤ 3)
len_some zero some most = absurd (omega arith)
len_some (suc zero) some most = (0, refl, omega arith)
len_some (suc (suc zero)) some most = (0, refl, omega arith)
len_some (suc (suc (suc zero))) some most = (1, refl, omega arith)
len_some (suc (suc (suc (suc zero)))) some most = (1, refl, omega arith)
len_some (suc (suc (suc (suc (suc zero))))) some most = (2, refl, omega arith)
len_some (suc (suc (suc (suc (suc (suc zero)))))) some most = (2, refl, omega arith)
len_some (suc (suc (suc (suc (suc (suc (suc zero))))))) some most = (3, refl, omega arith)
len_some (suc (suc (suc (suc (suc (suc (suc (suc zero)))))))) some most = (3, refl, omega arith)
len_some (suc (suc (suc (suc (suc (suc (suc (suc (suc zero))))))))) some most = (3, refl, omega arith)
len_some (suc (suc (suc (suc (suc (suc (suc (suc (suc (suc count)))))))))) some most = absurd (omega arith)

-- The first group that has digits says the sign.
sign_first : (precision at count : ℕ) (is_negative : Bool) (digits rest : List ℕ) → AreDigits digits → 1 ≤ count → count ≤ 9
    → nat_le 128 (get_or (group_bytes precision is_negative digits count at true ++ rest) 0 0) ≡ not is_negative
unfolding group_bytes
sign_first precision at count is_negative digits rest all some most =
    let p = len_some count some most in
    let n : ℕ = group_number precision digits count at in
    let less : n < 256 ^ digits_len count / 2 = group_half precision count at digits all some most in
    let small : n < 256 ^ suc p.0 / 2 = subst (λ (k : ℕ). n < 256 ^ k / 2) p.1 less in
    subst (λ (k : ℕ). nat_le 128 (get_or (big_bytes k (stored_number true is_negative (256 ^ k) n) ++ rest) 0 0) ≡ not is_negative) (sym p.1) (sign_by p.0 n is_negative p.2 small)

sign_nines : (precision at : ℕ) (n : ℕ) (tail : ℕ) (is_negative : Bool) (digits : List ℕ) → AreDigits digits → 1 ≤ n + tail → tail ≤ 9
    → nat_le 128 (get_or (groups_bytes precision is_negative digits (replicate n 9 ++ tail ∷ []) at 0) 0 0) ≡ not is_negative
sign_nines precision at zero tail is_negative digits all some most = sign_first precision at tail is_negative digits [] all (omega arith) most
sign_nines precision at (suc n) tail is_negative digits all some most =
    sign_first precision at 9 is_negative digits (groups_bytes precision is_negative digits (replicate n 9 ++ tail ∷ []) (at + 9) 4) all (omega arith) (omega arith)

sign_groups : (precision n : ℕ) (lead tail : ℕ) (is_negative : Bool) (digits : List ℕ) → AreDigits digits → 1 ≤ lead + n + tail → lead ≤ 9 → tail ≤ 9
    → nat_le 128 (get_or (groups_bytes precision is_negative digits (lead ∷ (replicate n 9 ++ tail ∷ [])) 0 0) 0 0) ≡ not is_negative
sign_groups precision n zero tail is_negative digits all some most last =
    let rest : List ℕ = groups_bytes precision is_negative digits (replicate n 9 ++ tail ∷ []) 0 0 in
    subst (λ (here : List ℕ). nat_le 128 (get_or (here ++ rest) 0 0) ≡ not is_negative) (sym (no_bytes precision 0 is_negative true digits)) (sign_nines precision 0 n tail is_negative digits all (omega arith) last)
sign_groups precision n (suc lead) tail is_negative digits all some most last =
    sign_first precision 0 (suc lead) is_negative digits (groups_bytes precision is_negative digits (replicate n 9 ++ tail ∷ []) (0 + suc lead) (0 + digits_len (suc lead))) all (omega arith) most

-- ---- the groups

-- The number of a group is read back from its stored number.
first_back : (is_negative : Bool) (all n : ℕ) → n < all / 2 → adjusted 0 (not is_negative) all (stored_number true is_negative all n) ≡ n
first_back false all n less = omega arith
first_back true all n less = omega arith

later_back : (place : ℕ) (is_negative : Bool) (all n : ℕ) → n < all → adjusted (suc place) (not is_negative) all (stored_number false is_negative all n) ≡ n
later_back place false all n less = refl
later_back place true all n less = omega arith

not_by : (n : ℕ) (t : Bool) → (n == 0) ≡ t → 1 ≤ n → (n == 0) ≡ false
not_by n true is some = absurd (omega (arith, eqb-true n 0 is))
not_by n false is some = is

not_first : (place : ℕ) → (suc place == 0) ≡ false
not_first place = not_by (suc place) (suc place == 0) refl (omega arith)

stored_back : (place : ℕ) (is_negative : Bool) (all n : ℕ) → n < all / 2 → adjusted place (not is_negative) all (stored_number (place == 0) is_negative all n) ≡ n
stored_back zero is_negative all n less = first_back is_negative all n less
stored_back (suc place) is_negative all n less =
    subst (λ (t : Bool). adjusted (suc place) (not is_negative) all (stored_number t is_negative all n) ≡ n) (sym (not_first place)) (later_back place is_negative all n (omega arith))

-- At most nine digits each.
abbrev pub AreNines : List ℕ → Type 0
AreNines [] = Unit {0}
AreNines (count ∷ counts) = (count ≤ 9) × AreNines counts

nines_all : (n tail : ℕ) → tail ≤ 9 → AreNines (replicate n 9 ++ tail ∷ [])
nines_all zero tail most = (most, tt)
nines_all (suc n) tail most = (omega arith, nines_all n tail most)

both_are : (a b : Bool) → a ≡ true → b ≡ true → (a && b) ≡ true
both_are a b p q = rw (p, q) refl

wide_by : (s before here rest : List ℕ) (place len : ℕ) → s ≡ before ++ (here ++ rest) → length before ≡ place → length here ≡ len → place + len ≤ length s
wide_by s before here rest place len split size wide = omega (arith, ap length split, length-append before (here ++ rest), length-append here rest)

one_or_more : (n k : ℕ) → n ≡ suc k → 1 ≤ n
one_or_more n k h = omega arith

some_back : (precision : ℕ) (is_negative : Bool) (digits : List ℕ) (count at place : ℕ) (s before rest : List ℕ) → AreDigits digits → 1 ≤ count → count ≤ 9 → IsBytes s
    → nat_le 128 (get_or s 0 0) ≡ not is_negative → s ≡ before ++ (group_bytes precision is_negative digits count at (place == 0) ++ rest) → length before ≡ place
    → big_number (digits_len count) (drop place (magnitude s)) ≡ group_number precision digits count at
unfolding group_bytes
some_back precision is_negative digits count at place s before rest all some most bytes sign split size =
    let p = len_some count some most in
    let len : ℕ = digits_len count in
    let n : ℕ = group_number precision digits count at in
    let half : n < 256 ^ len / 2 = group_half precision count at digits all some most in
    let stored : ℕ = stored_number (place == 0) is_negative (256 ^ len) n in
    let fits : stored < 256 ^ len = stored_small (place == 0) is_negative (256 ^ len) n half in
    let here : List ℕ = big_bytes len stored in
    let behind : drop place s ≡ here ++ rest = ap (λ (t : List ℕ). drop place t) split ∙ drop_at before (here ++ rest) place size in
    let read : big_number len (drop place s) ≡ stored = ap (λ (t : List ℕ). big_number len t) behind ∙ big_number-reads_back len stored rest fits in
    let is = group_is s place len bytes (one_or_more len p.0 p.1) (wide_by s before here rest place len split size (length-bytes_high_first len stored)) in
    is ∙ ap (λ (t : Bool). adjusted place t (256 ^ len) (big_number len (drop place s))) sign ∙ ap (λ (m : ℕ). adjusted place (not is_negative) (256 ^ len) m) read
    ∙ stored_back place is_negative (256 ^ len) n half

-- The number of a group is read back.
pub number_back : (precision : ℕ) (is_negative : Bool) (digits : List ℕ) (count at place : ℕ) (s before rest : List ℕ) → AreDigits digits → count ≤ 9 → IsBytes s
    → nat_le 128 (get_or s 0 0) ≡ not is_negative → s ≡ before ++ (group_bytes precision is_negative digits count at (place == 0) ++ rest) → length before ≡ place
    → big_number (digits_len count) (drop place (magnitude s)) ≡ group_number precision digits count at
unfolding group_number
number_back precision is_negative digits zero at place s before rest all most bytes sign split size = refl
number_back precision is_negative digits (suc c) at place s before rest all most bytes sign split size =
    some_back precision is_negative digits (suc c) at place s before rest all (omega arith) most bytes sign split size

group_back : (precision : ℕ) (is_negative : Bool) (digits : List ℕ) (count at place : ℕ) (s before rest : List ℕ) → AreDigits digits → count ≤ 9 → IsBytes s
    → nat_le 128 (get_or s 0 0) ≡ not is_negative → s ≡ before ++ (group_bytes precision is_negative digits count at (place == 0) ++ rest) → length before ≡ place
    → nat_lt (big_number (digits_len count) (drop place (magnitude s))) (10 ^ count) ≡ true
group_back precision is_negative digits count at place s before rest all most bytes sign split size =
    let back = number_back precision is_negative digits count at place s before rest all most bytes sign split size in
    lt-ltb _ _ (subst (λ (m : ℕ). m < 10 ^ count) (sym back) (group_small precision count at digits all))

groups_back : (precision : ℕ) (is_negative : Bool) (digits counts : List ℕ) (at place : ℕ) (s before : List ℕ) → AreDigits digits → AreNines counts → IsBytes s
    → nat_le 128 (get_or s 0 0) ≡ not is_negative → s ≡ before ++ groups_bytes precision is_negative digits counts at place → length before ≡ place
    → groups_fit counts (drop place (magnitude s)) ≡ true
groups_back precision is_negative digits [] at place s before all most bytes sign split size = refl
groups_back precision is_negative digits (count ∷ counts) at place s before all most bytes sign split size =
    let here : List ℕ = group_bytes precision is_negative digits count at (place == 0) in
    let rest : List ℕ = groups_bytes precision is_negative digits counts (at + count) (place + digits_len count) in
    let first = group_back precision is_negative digits count at place s before rest all most.0 bytes sign split size in
    let others : groups_fit counts (drop (place + digits_len count) (magnitude s)) ≡ true =
    groups_back precision is_negative digits counts (at + count) (place + digits_len count) s (before ++ here) all most.1 bytes sign (split ∙ sym (append_assoc before here rest))
    (sum_len before here place (digits_len count) size (group_len precision count at is_negative (place == 0) digits)) in
    both_are _ _ first (subst (λ (t : List ℕ). groups_fit counts t ≡ true) (sym (drop-drop (digits_len count) place (magnitude s))) others)

some_group : (precision scale : ℕ) → 1 ≤ precision → scale ≤ precision → 1 ≤ (precision - scale) % 9 + ((precision - scale) / 9 + scale / 9) + scale % 9
some_group precision scale some most = omega arith

below_nine : (n : ℕ) → n % 9 ≤ 9
below_nine n = omega arith

-- The groups of a decimal number have at most nine digits each.
pub are_nines : (precision scale : ℕ) → AreNines (groups precision scale)
are_nines precision scale = (below_nine (precision - scale), nines_all ((precision - scale) / 9 + scale / 9) (scale % 9) (below_nine scale))

-- The first byte of a decimal number says its sign.
pub sign_back : (precision scale : ℕ) (is_negative : Bool) (digits : List ℕ) → 1 ≤ precision → scale ≤ precision → AreDigits digits
    → nat_le 128 (get_or (decimal_bytes precision scale is_negative digits) 0 0) ≡ not is_negative
sign_back precision scale is_negative digits some most all =
    let lead : ℕ = (precision - scale) % 9 in
    let nines : ℕ = (precision - scale) / 9 + scale / 9 in
    let tail : ℕ = scale % 9 in
    sign_groups precision nines lead tail is_negative digits all (some_group precision scale some most) (below_nine (precision - scale)) (below_nine scale)

-- The bytes of a decimal number are one of its precision and scale.
pub decimal_fits : (precision scale : ℕ) (is_negative : Bool) (digits : List ℕ) → 1 ≤ precision → scale ≤ precision → AreDigits digits
    → is_decimal_bytes precision scale (decimal_bytes precision scale is_negative digits) ≡ true
decimal_fits precision scale is_negative digits some most all =
    let s : List ℕ = decimal_bytes precision scale is_negative digits in
    groups_back precision is_negative digits (groups precision scale) 0 0 s [] all (are_nines precision scale) (are_bytes precision is_negative digits (groups precision scale) 0 0)
    (sign_back precision scale is_negative digits some most all) refl refl

pub decimal_size : (precision scale : ℕ) (is_negative : Bool) (digits : List ℕ) → length (decimal_bytes precision scale is_negative digits) ≡ decimal_len precision scale
decimal_size precision scale is_negative digits = bytes_count precision is_negative digits (groups precision scale) 0 0
