-- Decimal numbers are numbers of JSON.
use Rattle.std.proofs.Common.{◌≡◌, ℕ, zero, suc, ◌+◌, ◌-◌, ◌*◌, ◌/◌, ◌%◌, ◌<◌, ◌≤◌, Bool, true, false, cond, ◌||◌, ◌==◌, not, List, [], ◌∷◌, ◌++◌, length, drop, Some, None, option_and_then, take, refl, sym, ap, subst, ◌∙◌, arith, append-nil, length-append}
use Rattle.std.proofs.lemmas.Bool.{ne_eqb, le-leb, and_from, eqb-true}
use Rattle.std.proofs.lemmas.List.{drop_at}
use Rattle.std.specs.List.{prefix_len}
use Rattle.std.specs.Char.{is_ascii_digit}
use Rattle.json.specs.Word.{head, after_digits, after_whole, after_fraction, after_exponent, after_number}
use Rattle.json.specs.Print.{IsNumber}
use Rattle.binary_json.specs.Opaques.{digits_len, magnitude, is_negative_decimal, number_behind}
use Rattle.binary_json_lines.proofs.DigitLemmas.{begun_stays}
use Rattle.binary_json_lines.specs.Digits.{last_digits, is_begun_by, digit_text, digits_text, group_digits, nines_digits, whole_digits, whole_len, whole_text, scale_digits, scale_text, sign_text, decimal_text}

-- ---- digits

abbrev AreBelow : List ℕ → Type 0
AreBelow [] = Unit {0}
AreBelow (d ∷ ds) = (d < 10) × AreBelow ds

below_both : (xs ys : List ℕ) → AreBelow xs → AreBelow ys → AreBelow (xs ++ ys)
below_both [] ys x y = y
below_both (d ∷ xs) ys x y = (x.0, below_both xs ys x.1 y)

last_below : (count n : ℕ) → AreBelow (last_digits count n)
unfolding last_digits
last_below zero n = tt
last_below (suc count) n = (omega arith, last_below count n)

nines_below : (count place : ℕ) (s : List ℕ) → AreBelow (nines_digits count place s)
nines_below zero place s = tt
nines_below (suc count) place s = below_both (group_digits place 9 s) (nines_digits count (place + 4) s) (last_below 9 _) (nines_below count (place + 4) s)

-- ---- the characters of digits

abbrev AreCodes : List ℕ → Type 0
AreCodes [] = Unit {0}
AreCodes (c ∷ cs) = ((48 ≤ c) × (c ≤ 57)) × AreCodes cs

shown_codes : (b : Bool) (d : ℕ) (rest : List ℕ) → d < 10 → AreCodes rest → AreCodes (digit_text b d ++ rest)
shown_codes true d rest small codes = ((omega arith, omega arith), codes)
shown_codes false d rest small codes = codes

text_codes : (b : Bool) (ds : List ℕ) → AreBelow ds → AreCodes (digits_text b ds)
text_codes b [] below = tt
text_codes b (d ∷ ds) below = let b' = b || not (d == 0) in shown_codes b' d (digits_text b' ds) below.0 (text_codes b' ds below.1)

-- The first character is that of no zero, and there is one.
abbrev Leads : List ℕ → Type 0
Leads [] = ⊥
Leads (c ∷ cs) = 48 < c

leads : (ds : List ℕ) → is_begun_by false ds ≡ true → Leads (digits_text false ds)
leads [] e = absurd cc
leads (zero ∷ ds) e = leads ds e
leads (suc d ∷ ds) e = rw (ne_eqb (suc d) 0 (λ e. omega arith)) (omega arith)

nothing : (ds : List ℕ) → is_begun_by false ds ≡ false → digits_text false ds ≡ []
nothing [] e = refl
nothing (zero ∷ ds) e = nothing ds e
nothing (suc d ∷ ds) e =
    let begun : is_begun_by true ds ≡ false = rw (ne_eqb (suc d) 0 (λ e. omega arith)) at e in
    let both : true ≡ false = sym (begun_stays ds) ∙ begun in
    absurd cc

-- A whole number without zeros in front.
record IsWhole (w : List ℕ) : Type 0 where
  codes : AreCodes w
  some : 0 < length w
  no_zero : head w ≡ 48 → length w ≡ 1

lead_whole : (w : List ℕ) → AreCodes w → Leads w → IsWhole w
lead_whole [] codes lead = absurd lead
lead_whole (c ∷ cs) codes lead = record { codes = codes; some = omega arith; no_zero = λ z. absurd (omega (arith, z, lead)) }

whole_is : (ds : List ℕ) (b : Bool) → AreBelow ds → is_begun_by false ds ≡ b → IsWhole (digits_text false ds ++ cond b [] (48 ∷ []))
whole_is ds true below e = subst IsWhole (sym (append-nil (digits_text false ds))) (lead_whole (digits_text false ds) (text_codes false ds below) (leads ds e))
whole_is ds false below e = subst (λ (l : List ℕ). IsWhole (l ++ 48 ∷ [])) (sym (nothing ds e)) (record { codes = ((omega arith, omega arith), tt); some = omega arith; no_zero = λ z. refl })

-- ---- the parts of a number

run : (ds r : List ℕ) → AreCodes ds → prefix_len is_ascii_digit r ≡ 0 → prefix_len is_ascii_digit (ds ++ r) ≡ length ds
run [] r h none = none
run (d ∷ ds) r h none = ap (λ b. cond b (1 + prefix_len is_ascii_digit (ds ++ r)) 0) (and_from _ _ (le-leb 48 d h.0.0) (le-leb d 57 h.0.1)) ∙ omega (arith, run ds r h.1 none)

digits_then : (ds r : List ℕ) → AreCodes ds → 0 < length ds → prefix_len is_ascii_digit r ≡ 0 → after_digits (ds ++ r) ≡ Some r
digits_then ds r h some none =
    ap (λ n. cond (n == 0) None (Some (drop n (ds ++ r)))) (run ds r h none) ∙ ap (λ b. cond b None (Some (drop (length ds) (ds ++ r)))) (ne_eqb (length ds) 0 (λ e. omega arith))
    ∙ ap Some (drop_at ds r _ refl)

lone_zero : (ds r : List ℕ) → length ds ≡ 0 → ds ++ r ≡ r
lone_zero [] r e = refl
lone_zero (d ∷ ds) r e = absurd (omega arith)

first_of_whole : (z : Bool) (d : ℕ) (ds r : List ℕ) → (z ≡ true → length ds ≡ 0) → after_digits (d ∷ ds ++ r) ≡ Some r → cond z (Some (ds ++ r)) (after_digits (d ∷ ds ++ r)) ≡ Some r
first_of_whole true d ds r alone more = ap Some (lone_zero ds r (alone refl))
first_of_whole false d ds r alone more = more

whole_then : (w r : List ℕ) → IsWhole w → prefix_len is_ascii_digit r ≡ 0 → (after_whole (w ++ r) ≡ Some r) × ((head (w ++ r) == 45) ≡ false)
whole_then [] r h none = absurd (omega (arith, h.some))
whole_then (d ∷ ds) r h none = (
  first_of_whole (d == 48) d ds r (λ e. omega (arith, h.no_zero (eqb-true d 48 e))) (digits_then (d ∷ ds) r h.codes h.some none),
  ne_eqb d 45 (λ e. omega (arith, h.codes.0.0)),
)

-- What follows the whole number, if it is the rest of a number.
abbrev Ends : List ℕ → Type 0
Ends f = (after_fraction f ≡ Some []) × (prefix_len is_ascii_digit f ≡ 0)

fraction_by : (q : Bool) (ds : List ℕ) → (q ≡ false → AreCodes ds × (0 < length ds)) → Ends (cond q [] (46 ∷ ds))
fraction_by true ds h = (refl, refl)
fraction_by false ds h = let digits = h refl in (ap after_digits (sym (append-nil ds)) ∙ digits_then ds [] digits.0 digits.1 refl, refl)

unsigned : (w f : List ℕ) → IsWhole w → Ends f → (option_and_then after_exponent (option_and_then after_fraction (after_whole (w ++ f))) ≡ Some []) × ((head (w ++ f) == 45) ≡ false)
unsigned w f whole ends =
    let first = whole_then w f whole ends.1 in
    (ap (λ o. option_and_then after_exponent (option_and_then after_fraction o)) first.0 ∙ ap (option_and_then after_exponent) ends.0, first.1)

signed : (negative : Bool) (w f : List ℕ) → IsWhole w → Ends f → IsNumber (sign_text negative ++ (w ++ f))
unfolding after_number
signed true w f whole ends = (unsigned w f whole ends).0
signed false w f whole ends =
    let u = unsigned w f whole ends in
    ap (λ b. option_and_then after_exponent (option_and_then after_fraction (after_whole (cond b (drop 1 (w ++ f)) (w ++ f))))) u.1 ∙ u.0

-- ---- the lengths of digits

last_length : (count n : ℕ) → length (last_digits count n) ≡ count
unfolding last_digits
last_length zero n = refl
last_length (suc count) n = ap suc (last_length count n)

nines_length : (count place : ℕ) (s : List ℕ) → length (nines_digits count place s) ≡ 9 * count
nines_length zero place s = refl
nines_length (suc count) place s =
    let g = group_digits place 9 s in
    let n = nines_digits count (place + 4) s in
    omega (arith, length-append g n, last_length 9 (number_behind 0 (take (digits_len 9) (drop place s))), nines_length count (place + 4) s)

text_length : (ds : List ℕ) → length (digits_text true ds) ≡ length ds
text_length [] = refl
text_length (d ∷ ds) = ap suc (text_length ds)

scale_is : (scale place : ℕ) (s : List ℕ) → 0 < scale → AreCodes (digits_text true (scale_digits scale place s)) × (0 < length (digits_text true (scale_digits scale place s)))
scale_is scale place s some =
    let n = nines_digits (scale / 9) place s in
    let last = number_behind 0 (take (digits_len (scale % 9)) (drop (place + 4 * (scale / 9)) s)) in
    let g = last_digits (scale % 9) last in
    let all = scale_digits scale place s in (
      text_codes true all (below_both n g (nines_below (scale / 9) place s) (last_below (scale % 9) last)),
      omega (arith, text_length all, length-append n g, nines_length (scale / 9) place s, last_length (scale % 9) last),
    )

fraction_is : (scale place : ℕ) (s : List ℕ) → Ends (scale_text scale place s)
fraction_is scale place s = fraction_by (scale == 0) (digits_text true (scale_digits scale place s)) (λ e. scale_is scale place s (above scale e))
  where
    above : (n : ℕ) → (n == 0) ≡ false → 0 < n
    above zero e = absurd cc
    above (suc n) e = omega arith

pub decimal_is_number : (precision scale : ℕ) (s : List ℕ) → IsNumber (decimal_text precision scale s)
unfolding decimal_text
decimal_is_number precision scale s =
    let m = magnitude s in
    let count = precision - scale in
    let w = whole_digits count m in
    let below = below_both (group_digits 0 (count % 9) m) (nines_digits (count / 9) (digits_len (count % 9)) m) (last_below (count % 9) _) (nines_below (count / 9) (digits_len (count % 9)) m) in
    signed (is_negative_decimal s) (whole_text w) (scale_text scale (whole_len count) m) (whole_is w (is_begun_by false w) below refl) (fraction_is scale (whole_len count) m)
