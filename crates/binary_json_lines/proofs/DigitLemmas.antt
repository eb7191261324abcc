-- Digits that are written one after the other.
use Rattle.std.proofs.Common.{◌≡◌, ℕ, zero, suc, ◌+◌, ◌-◌, ◌*◌, ◌/◌, ◌%◌, ◌^◌, ◌<◌, Bool, true, false, cond, ◌==◌, ◌||◌, not, List, [], ◌∷◌, ◌++◌, refl, sym, ap, ◌∙◌, append_assoc, arith}
use Rattle.std.proofs.lemmas.Bool.{ne_eqb}
use Rattle.binary_json.specs.Opaques.{digits_len, groups, groups_len}
use Rattle.binary_json.proofs.Decimals.{groups_count}
use Rattle.binary_json_lines.specs.Digits.{last_digits, is_begun_by, digit_text, digits_text, group_digits, nines_digits, whole_digits, whole_text, scale_text}

pub no_digits : (count n : ℕ) → count ≡ 0 → last_digits count n ≡ []
unfolding last_digits
no_digits count n none = rw none refl

-- The first digit, and the others.
pub first_digit : (b : Bool) (count n : ℕ) → 0 < count → digits_text b (last_digits count n)
    ≡ digit_text (b || not (n / 10 ^ (count - 1) % 10 == 0)) (n / 10 ^ (count - 1) % 10) ++ digits_text (b || not (n / 10 ^ (count - 1) % 10 == 0)) (last_digits (count - 1) n)
unfolding last_digits
first_digit b zero n some = absurd (omega arith)
first_digit b (suc count) n some = let e : suc count - 1 ≡ count = omega arith in rw e refl

pub first_begun : (b : Bool) (count n : ℕ) → 0 < count → is_begun_by b (last_digits count n) ≡ is_begun_by (b || not (n / 10 ^ (count - 1) % 10 == 0)) (last_digits (count - 1) n)
unfolding last_digits
first_begun b zero n some = absurd (omega arith)
first_begun b (suc count) n some = let e : suc count - 1 ≡ count = omega arith in rw e refl

-- Digits behind others.
pub begun_both : (b : Bool) (xs ys : List ℕ) → is_begun_by b (xs ++ ys) ≡ is_begun_by (is_begun_by b xs) ys
begun_both b [] ys = refl
begun_both b (x ∷ xs) ys = begun_both (b || not (x == 0)) xs ys

pub text_both : (b : Bool) (xs ys : List ℕ) → digits_text b (xs ++ ys) ≡ digits_text b xs ++ digits_text (is_begun_by b xs) ys
text_both b [] ys = refl
text_both b (x ∷ xs) ys =
    let b' = b || not (x == 0) in
    ap (λ (l : List ℕ). digit_text b' x ++ l) (text_both b' xs ys) ∙ sym (append_assoc (digit_text b' x) (digits_text b' xs) (digits_text (is_begun_by b' xs) ys))

pub begun_stays : (xs : List ℕ) → is_begun_by true xs ≡ true
begun_stays [] = refl
begun_stays (x ∷ xs) = begun_stays xs

-- The first group of nine digits, and the others.
pub first_nine : (b : Bool) (count place : ℕ) (s : List ℕ) → 0 < count → digits_text b (nines_digits count place s)
    ≡ digits_text b (group_digits place 9 s) ++ digits_text (is_begun_by b (group_digits place 9 s)) (nines_digits (count - 1) (place + 4) s)
first_nine b zero place s some = absurd (omega arith)
first_nine b (suc count) place s some =
    let e : suc count - 1 ≡ count = omega arith in
    rw e (text_both b (group_digits place 9 s) (nines_digits count (place + 4) s))

pub nine_begun : (b : Bool) (count place : ℕ) (s : List ℕ) → 0 < count → is_begun_by b (nines_digits count place s) ≡ is_begun_by (is_begun_by b (group_digits place 9 s)) (nines_digits (count - 1) (place + 4) s)
nine_begun b zero place s some = absurd (omega arith)
nine_begun b (suc count) place s some =
    let e : suc count - 1 ≡ count = omega arith in
    rw e (begun_both b (group_digits place 9 s) (nines_digits count (place + 4) s))

-- The digits before the point, in two steps.
pub whole_shown : (count : ℕ) (s : List ℕ) (b c : Bool) → b ≡ is_begun_by false (group_digits 0 (count % 9) s) → c ≡ is_begun_by b (nines_digits (count / 9) (digits_len (count % 9)) s)
    → whole_text (whole_digits count s) ≡ (digits_text false (group_digits 0 (count % 9) s) ++ digits_text b (nines_digits (count / 9) (digits_len (count % 9)) s)) ++ cond c [] (48 ∷ [])
whole_shown count s b c first then =
    let g = group_digits 0 (count % 9) s in
    let n = nines_digits (count / 9) (digits_len (count % 9)) s in
    rw (text_both false g n, begun_both false g n, ← first, ← then) refl

-- The digits after the point, in two steps.
pub scale_shown : (scale place : ℕ) (s : List ℕ) → 0 < scale → scale_text scale place s
    ≡ 46 ∷ (digits_text true (nines_digits (scale / 9) place s) ++ digits_text true (group_digits (place + 4 * (scale / 9)) (scale % 9) s))
scale_shown scale place s some =
    let n = nines_digits (scale / 9) place s in
    let g = group_digits (place + 4 * (scale / 9)) (scale % 9) s in
    rw (ne_eqb scale 0 (λ e. omega arith), text_both true n g, begun_stays n) refl

-- The bytes of all groups.
pub digits_room : (precision scale : ℕ) → groups_len (groups precision scale) ≡ digits_len ((precision - scale) % 9) + (4 * ((precision - scale) / 9 + scale / 9) + digits_len (scale % 9))
digits_room precision scale = ap (λ (n : ℕ). digits_len ((precision - scale) % 9) + n) (groups_count ((precision - scale) / 9 + scale / 9) (scale % 9))
