-- The groups of a decimal number's text are its digits.
use Rattle.std.proofs.Common.{◌≡◌, ◌≢◌, ℕ, zero, suc, ◌+◌, ◌-◌, ◌*◌, ◌/◌, ◌%◌, ◌^◌, ◌<◌, ◌≤◌, Bool, true, false, cond, List, [], ◌∷◌, ◌++◌, length, take, drop, replicate, refl, sym, ap, ◌∙◌, append_assoc, append-nil, arith}
use Rattle.std.specs.Prelude.{◌==◌, nat_lt, not}
use Rattle.std.proofs.Math.Nat.{pow-succ', one-le-pow, mod-eq_of_lt, zero-div, pow-le-pow_right}
use Rattle.std.proofs.Math.Seq.{take-append_seam}
use Rattle.std.proofs.lemmas.Bool.{ltb-true, eqb-true, eqb-false, and_parts, ne_eqb}
use Rattle.std.proofs.lemmas.Nat.{div_below, mod_below, div-add-mod'}
use Rattle.std.proofs.lemmas.List.{drop_at, drop-drop, map-append, replicate-append-replicate}
use Rattle.std.specs.Fmt.{decimal}
use Rattle.byteorder.specs.Endian.{big_number}
use Rattle.binlog_values.specs.Contents.{digits_len, groups, groups_len, groups_fit, is_decimal_bytes, magnitude}
use Rattle.binlog_values.specs.Texts.{last_digits, digits_codes, sign_text}
use Rattle.binlog_values.specs.Decimals.{groups_digits, decimal_digits, without_zeros, or_zero, shown_whole, shown_scale, is_negative_decimal, digits_count, decimal_text}
use Rattle.binlog_values.specs.DecimalGroups.{group_at, group_text, is_begun_by, nines_text, whole_text, part_text, scale_text, whole_len, grouped_text}
use Rattle.binlog_values.specs.DecimalLaws.{rest_count}
use Rattle.binlog_values.proofs.DecimalDigits.{digits_of_groups}
use Rattle.binlog_values.proofs.DigitTexts.{digit_and_last}

-- ---- the digits of one group

-- No digit of zero is shown in front.
zeros_left : (count : ℕ) (rest : List ℕ) → without_zeros (last_digits count 0 ++ rest) ≡ without_zeros rest
unfolding last_digits
zeros_left zero rest = refl
zeros_left (suc count) rest =
    let none : 0 / 10 ^ count ≡ 0 = zero-div (10 ^ count) in
    let digit : 0 / 10 ^ count % 10 ≡ 0 = ap (λ (m : ℕ). m % 10) none in
    rw digit (zeros_left count rest)

-- The digits of a number without the zeros in front are those of its text.
record Shown (count n : ℕ) : Type 0 where
  first : ℕ
  others : List ℕ
  front : (rest : List ℕ) → without_zeros (last_digits count n ++ rest) ≡ first ∷ (others ++ rest)
  text : decimal n ≡ digits_codes (first ∷ others)

some_digit : (digit : ℕ) → digit ≢ 0 → 1 ≤ digit
some_digit zero ne = absurd (ne refl)
some_digit (suc digit) ne = omega arith

-- A first digit that is a zero isn't shown.
zero_front : (count n : ℕ) (rest : List ℕ) → n / 10 ^ count % 10 ≡ 0 → without_zeros (last_digits (suc count) n ++ rest) ≡ without_zeros (last_digits count n ++ rest)
unfolding last_digits
zero_front count n rest none = ap (λ (digit : ℕ). without_zeros (digit ∷ (last_digits count n ++ rest))) none

-- The first digit is a zero, or isn't.
shown_by : (count n digit : ℕ) → 0 < n → n < 2 ^ 64 → digit ≡ n / 10 ^ count % 10 → digit * 10 ^ count + n % 10 ^ count ≡ n → digit ≤ 9 → (n < 10 ^ count → Shown count n)
    → (b : Bool) → (digit == 0) ≡ b → Shown (suc count) n
unfolding last_digits
shown_by count n digit some small is whole few before true none =
    let zero_is : digit ≡ 0 = eqb-true digit 0 none in
    let left : n % 10 ^ count ≡ n = omega (arith, whole, ap (λ (d : ℕ). d * 10 ^ count) zero_is) in
    let below : n < 10 ^ count = omega (arith, left, mod_below n (10 ^ count) (one-le-pow count 10 (omega arith))) in
    let rest = before below in
    record {
      first = rest.first;
      others = rest.others;
      front = λ more. zero_front count n more (sym is ∙ zero_is) ∙ rest.front more;
      text = rest.text;
    }
shown_by count n digit some small is whole few before false first =
    record {
      first = digit;
      others = last_digits count n;
      front = λ more. rw (← is, first) refl;
      text = ap decimal (sym whole) ∙ digit_and_last digit count n (some_digit digit (eqb-false digit 0 first)) few (omega (arith, whole, small));
    }

shown : (count n : ℕ) → 0 < n → n < 10 ^ count → n < 2 ^ 64 → Shown count n
shown zero n some few small = absurd (omega (arith, some, few))
shown (suc count) n some few small =
    let power : 1 ≤ 10 ^ count = one-le-pow count 10 (omega arith) in
    let below : n / 10 ^ count < 10 = div_below n (10 ^ count) 10 power (omega (arith, few, pow-succ' 10 count)) in
    let digit : n / 10 ^ count % 10 ≡ n / 10 ^ count = mod-eq_of_lt below in
    let whole : n / 10 ^ count % 10 * 10 ^ count + n % 10 ^ count ≡ n = ap (λ (d : ℕ). d * 10 ^ count + n % 10 ^ count) digit ∙ div-add-mod' n (10 ^ count) in
    shown_by count n (n / 10 ^ count % 10) some small refl whole (omega (arith, digit, below)) (λ less. shown count n some less small) _ refl

-- ---- a group before those behind it

-- The text of a group, and behind it that of other digits, by whether a digit that isn't zero is before them.
group_shown : (count n : ℕ) (rest : List ℕ) (others : Bool → List ℕ) → n < 10 ^ count → n < 2 ^ 64 → others false ≡ digits_codes (shown_whole rest) → others true ≡ digits_codes rest
    → (b : Bool) → (n == 0) ≡ b → cond b [] (decimal n) ++ others (not b) ≡ digits_codes (shown_whole (last_digits count n ++ rest))
group_shown count n rest others few small fresh begun true none =
    let zero_is : n ≡ 0 = eqb-true n 0 none in
    fresh ∙ ap (λ (l : List ℕ). digits_codes (or_zero l)) (sym (zeros_left count rest)) ∙ ap (λ (m : ℕ). digits_codes (shown_whole (last_digits count m ++ rest))) (sym zero_is)
group_shown count n rest others few small fresh begun false first =
    let is = shown count n (some_digit n (eqb-false n 0 first)) few small in
    ap (λ (l : List ℕ). l ++ others true) is.text
    ∙ ap (λ (l : List ℕ). digits_codes (is.first ∷ is.others) ++ l) begun
    ∙ sym (map-append (λ (digit : ℕ). 48 + digit) (is.first ∷ is.others) rest)
    ∙ ap (λ (l : List ℕ). digits_codes (or_zero l)) (sym (is.front rest))

-- ---- groups of nine digits

begun_nines : (count place : ℕ) (s : List ℕ) → nines_text count place true s ≡ digits_codes (groups_digits (replicate count 9) (drop place s))
begun_nines zero place s = refl
begun_nines (suc count) place s =
    let group : List ℕ = last_digits 9 (group_at place 9 s) in
    ap (λ (l : List ℕ). digits_codes group ++ l) (begun_nines count (place + 4) s)
    ∙ ap (λ (l : List ℕ). digits_codes group ++ digits_codes (groups_digits (replicate count 9) l)) (sym (drop-drop 4 place s))
    ∙ sym (map-append (λ (digit : ℕ). 48 + digit) group (groups_digits (replicate count 9) (drop 4 (drop place s))))

fresh_nines : (count place : ℕ) (s : List ℕ) (others : List ℕ) → groups_fit (replicate count 9 ++ others) (drop place s) ≡ true
    → nines_text count place false s ≡ digits_codes (shown_whole (groups_digits (replicate count 9) (drop place s)))
fresh_nines zero place s others fits = refl
fresh_nines (suc count) place s others fits =
    let group : ℕ = group_at place 9 s in
    let both = and_parts (nat_lt group (10 ^ 9)) (groups_fit (replicate count 9 ++ others) (drop 4 (drop place s))) fits in
    let few : group < 10 ^ 9 = ltb-true _ _ both.0 in
    let rest : List ℕ = groups_digits (replicate count 9) (drop 4 (drop place s)) in
    let back : drop 4 (drop place s) ≡ drop (place + 4) s = drop-drop 4 place s in
    let fresh : nines_text count (place + 4) false s ≡ digits_codes (shown_whole rest) =
    rw back (fresh_nines count (place + 4) s others (rw back at both.1)) in
    let begun : nines_text count (place + 4) true s ≡ digits_codes rest = rw back (begun_nines count (place + 4) s) in
    group_shown 9 group rest (λ b. nines_text count (place + 4) b s) few (omega (arith, few)) fresh begun _ refl

-- ---- the digits before the point

-- The first group, and so many groups of nine digits.
whole_shown : (lead count : ℕ) (s others : List ℕ) → lead ≤ 9 → groups_fit (lead ∷ (replicate count 9 ++ others)) s ≡ true
    → group_text false lead (group_at 0 lead s) ++ nines_text count (digits_len lead) (is_begun_by false (group_at 0 lead s)) s
    ≡ digits_codes (shown_whole (groups_digits (lead ∷ replicate count 9) s))
whole_shown lead count s others few fits =
    let group : ℕ = group_at 0 lead s in
    let both = and_parts (nat_lt group (10 ^ lead)) (groups_fit (replicate count 9 ++ others) (drop (digits_len lead) s)) fits in
    let below : group < 10 ^ lead = ltb-true _ _ both.0 in
    let most : 10 ^ lead ≤ 10 ^ 9 = pow-le-pow_right (omega arith) few in
    group_shown lead group (groups_digits (replicate count 9) (drop (digits_len lead) s)) (λ b. nines_text count (digits_len lead) b s) below (omega (arith, below, most))
    (fresh_nines count (digits_len lead) s others both.1) (begun_nines count (digits_len lead) s) _ refl

-- ---- the digits after the point

part_shown : (count place tail : ℕ) (s : List ℕ) → part_text count place tail s ≡ digits_codes (groups_digits (replicate count 9 ++ tail ∷ []) (drop place s))
part_shown zero place tail s = ap digits_codes (sym (append-nil (last_digits tail (group_at place tail s))))
part_shown (suc count) place tail s =
    let group : List ℕ = last_digits 9 (group_at place 9 s) in
    ap (λ (l : List ℕ). digits_codes group ++ l) (part_shown count (place + 4) tail s)
    ∙ ap (λ (l : List ℕ). digits_codes group ++ digits_codes (groups_digits (replicate count 9 ++ tail ∷ []) l)) (sym (drop-drop 4 place s))
    ∙ sym (map-append (λ (digit : ℕ). 48 + digit) group (groups_digits (replicate count 9 ++ tail ∷ []) (drop 4 (drop place s))))

scale_shown : (scale : ℕ) (digits : List ℕ) → length digits ≡ scale → cond (scale == 0) [] (46 ∷ digits_codes digits) ≡ shown_scale digits
scale_shown zero [] is = refl
scale_shown zero (digit ∷ digits) is = absurd (omega arith)
scale_shown (suc scale) [] is = absurd (omega arith)
scale_shown (suc scale) (digit ∷ digits) is = rw (ne_eqb (suc scale) 0 (λ e. omega (arith, e))) refl

-- ---- all groups

-- The digits of groups behind others.
digits_behind : (a b s : List ℕ) → groups_digits (a ++ b) s ≡ groups_digits a s ++ groups_digits b (drop (groups_len a) s)
digits_behind [] b s = refl
digits_behind (count ∷ a) b s =
    let group : List ℕ = last_digits count (big_number (digits_len count) s) in
    ap (λ (l : List ℕ). group ++ l) (digits_behind a b (drop (digits_len count) s))
    ∙ ap (λ (l : List ℕ). group ++ (groups_digits a (drop (digits_len count) s) ++ groups_digits b l)) (drop-drop (groups_len a) (digits_len count) s)
    ∙ sym (append_assoc group (groups_digits a (drop (digits_len count) s)) (groups_digits b (drop (digits_len count + groups_len a) s)))

nines_len : (count : ℕ) → groups_len (replicate count 9) ≡ 4 * count
nines_len zero = refl
nines_len (suc count) = let ih = nines_len count in omega (arith, ih)

nines_count : (count : ℕ) → digits_count (replicate count 9) ≡ 9 * count
nines_count zero = refl
nines_count (suc count) = let ih = nines_count count in omega (arith, ih)

-- The groups before the point, and those after it.
groups_split : (precision scale : ℕ) → groups precision scale
    ≡ ((precision - scale) % 9 ∷ replicate ((precision - scale) / 9) 9) ++ (replicate (scale / 9) 9 ++ (scale % 9) ∷ [])
groups_split precision scale =
    let whole : ℕ = (precision - scale) / 9 in
    let part : ℕ = scale / 9 in
    ap (λ (l : List ℕ). ((precision - scale) % 9) ∷ (l ++ (scale % 9) ∷ [])) (sym (replicate-append-replicate whole part 9))
    ∙ ap (λ (l : List ℕ). ((precision - scale) % 9) ∷ l) (append_assoc (replicate whole 9) (replicate part 9) ((scale % 9) ∷ []))

-- The text that is made group by group is that of the digits.
pub decimal_shown : (precision scale : ℕ) (s : List ℕ) → scale ≤ precision → is_decimal_bytes precision scale s ≡ true
    → grouped_text precision scale s ≡ decimal_text precision scale s
unfolding whole_text scale_text grouped_text decimal_text
decimal_shown precision scale s within fits =
    let m : List ℕ = magnitude s in
    let sign : List ℕ = sign_text (is_negative_decimal s) in
    let before : ℕ = precision - scale in
    let front : List ℕ = (before % 9) ∷ replicate (before / 9) 9 in
    let back : List ℕ = replicate (scale / 9) 9 ++ (scale % 9) ∷ [] in
    let whole : List ℕ = groups_digits front m in
    let part : List ℕ = groups_digits back (drop (whole_len before) m) in
    let place : groups_len front ≡ whole_len before = omega (arith, nines_len (before / 9)) in
    let digits : decimal_digits precision scale s ≡ whole ++ part =
    ap (λ (g : List ℕ). groups_digits g m) (groups_split precision scale) ∙ digits_behind front back m ∙ ap (λ (n : ℕ). whole ++ groups_digits back (drop n m)) place in
    let whole_digits : length whole ≡ before = digits_of_groups front m ∙ omega (arith, nines_count (before / 9)) in
    let part_digits : length part ≡ scale = digits_of_groups back (drop (whole_len before) m) ∙ omega (arith, rest_count (scale / 9) (scale % 9)) in
    let taken : take before (decimal_digits precision scale s) ≡ whole =
    ap (take before) digits ∙ ap (λ (n : ℕ). take n (whole ++ part)) (sym whole_digits) ∙ take-append_seam whole part in
    let dropped : drop before (decimal_digits precision scale s) ≡ part = ap (drop before) digits ∙ drop_at whole part before whole_digits in
    let first : whole_text before m ≡ digits_codes (shown_whole whole) =
    whole_shown (before % 9) (before / 9) m back (omega arith) (ap (λ (g : List ℕ). groups_fit g m) (sym (groups_split precision scale)) ∙ fits) in
    let last : scale_text scale (whole_len before) m ≡ shown_scale part =
    ap (λ (l : List ℕ). cond (scale == 0) [] (46 ∷ l)) (part_shown (scale / 9) (whole_len before) (scale % 9) m) ∙ scale_shown scale part part_digits in
    append_assoc sign (whole_text before m) (scale_text scale (whole_len before) m)
    ∙ ap (λ (l : List ℕ). sign ++ (l ++ scale_text scale (whole_len before) m)) first
    ∙ ap (λ (l : List ℕ). sign ++ (digits_codes (shown_whole whole) ++ l)) last
    ∙ ap (λ (l : List ℕ). sign ++ (digits_codes (shown_whole l) ++ shown_scale part)) (sym taken)
    ∙ ap (λ (l : List ℕ). sign ++ (digits_codes (shown_whole (take before (decimal_digits precision scale s))) ++ shown_scale l)) (sym dropped)
    ∙ sym (append_assoc sign (digits_codes (shown_whole (take before (decimal_digits precision scale s)))) (shown_scale (drop before (decimal_digits precision scale s))))
