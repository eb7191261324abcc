-- The digits of decimal numbers.
use Rattle.std.proofs.Common.{◌≡◌, ℕ, zero, suc, ◌+◌, ◌-◌, ◌*◌, ◌/◌, ◌%◌, ◌^◌, ◌<◌, ◌≤◌, Bool, true, List, [], ◌∷◌, ◌++◌, length, get_or, take, drop, set, IsUtf8, refl, sym, ap, ◌∙◌, append_assoc, append-nil, length-append, arith}
use Rattle.std.specs.Prelude.{◌==◌}
use Rattle.std.proofs.Math.Nat.{pow-suc, pow-succ', one-le-pow, div-div-eq-div-mul}
use Rattle.std.proofs.lemmas.Nat.{mod-mul-add, div-add-mod'}
use Rattle.std.proofs.lemmas.Bool.{and_from}
use Rattle.std.proofs.lemmas.Fmt.{decimal_digit, decimal_step}
use Rattle.std.proofs.lemmas.List.{drop-drop, drop-set, take-set, length-drop, take_more}
use Rattle.std.specs.Fmt.{decimal}
use Rattle.json.specs.Filled.{Placed}
use Rattle.json.specs.Print.{escape}
use Rattle.json_line.specs.Buffers.{minus}
use Rattle.json_line.specs.Decimals.{last_codes, nines_text, scale_text, decimal_text}
use Rattle.json_line.proofs.BufferTexts.{ending_at}
use Rattle.json_line.proofs.PlainMoments.{are_passed, passed_text, both_passed, digit_passed, decimal_passed, by_test, minus_passed}

-- ---- the digits behind a one

-- The last digit, behind those of a tenth of the number.
last_more : (count n : ℕ) → last_codes (suc count) n ≡ last_codes count (n / 10) ++ (48 + n % 10) ∷ []
unfolding last_codes
last_more zero n =
    let one : n / 10 ^ 0 % 10 ≡ n % 10 = omega arith in
    ap (λ (d : ℕ). (48 + d) ∷ []) one
last_more (suc count) n =
    let shifted : n / 10 ^ suc count ≡ n / 10 / 10 ^ count = ap (λ (p : ℕ). n / p) (pow-succ' 10 count) ∙ sym (div-div-eq-div-mul n 10 (10 ^ count)) in
    ap (λ (m : ℕ). (48 + m % 10) ∷ last_codes (suc count) n) shifted ∙ ap (λ (t : List ℕ). (48 + n / 10 / 10 ^ count % 10) ∷ t) (last_more count n)

-- The remainder by ten times a number.
mod_ten_times : (k n : ℕ) → 0 < k → n % (k * 10) ≡ n / 10 % k * 10 + n % 10
mod_ten_times k n some =
    let tenth : n / 10 / k * k + n / 10 % k ≡ n / 10 = div-add-mod' (n / 10) k in
    let below : n / 10 % k < k = omega (arith, some) in
    let small : n / 10 % k * 10 + n % 10 < k * 10 = omega (arith, below) in
    let parts : n / 10 / k * (k * 10) + (n / 10 % k * 10 + n % 10) ≡ n = omega (arith, tenth) in
    ap (λ (m : ℕ). m % (k * 10)) (sym parts) ∙ mod-mul-add (n / 10 / k) (k * 10) (n / 10 % k * 10 + n % 10) small

-- The digits of a number that has a one before so many last digits.
one_before : (count n : ℕ) → 10 ^ count + n % 10 ^ count < 2 ^ 64 → decimal (10 ^ count + n % 10 ^ count) ≡ 49 ∷ last_codes count n
unfolding last_codes
one_before zero n small = let e : 10 ^ 0 + n % 10 ^ 0 ≡ 1 = omega arith in ap (λ (m : ℕ). decimal m) e ∙ decimal_digit 1 (omega arith)
one_before (suc count) n small =
    let power : 1 ≤ 10 ^ count = one-le-pow count 10 (omega arith) in
    let whole : 10 ^ suc count + n % 10 ^ suc count ≡ (10 ^ count + n / 10 % 10 ^ count) * 10 + n % 10 =
    ap (λ (m : ℕ). m + n % m) (pow-suc 10 count) ∙ omega (arith, mod_ten_times (10 ^ count) n power) in
    let tenth : (10 ^ suc count + n % 10 ^ suc count) / 10 ≡ 10 ^ count + n / 10 % 10 ^ count = omega (arith, whole) in
    let last : (10 ^ suc count + n % 10 ^ suc count) % 10 ≡ n % 10 = omega (arith, whole) in
    let before : decimal (10 ^ count + n / 10 % 10 ^ count) ≡ 49 ∷ last_codes count (n / 10) = one_before count (n / 10) (omega (arith, whole, small)) in
    decimal_step (10 ^ suc count + n % 10 ^ suc count) (omega (arith, whole, power)) small
    ∙ ap (λ (m : ℕ). decimal m ++ (48 + (10 ^ suc count + n % 10 ^ suc count) % 10) ∷ []) tenth
    ∙ ap (λ (d : ℕ). decimal (10 ^ count + n / 10 % 10 ^ count) ++ (48 + d) ∷ []) last
    ∙ ap (λ (l : List ℕ). l ++ (48 + n % 10) ∷ []) before
    ∙ ap (λ (l : List ℕ). 49 ∷ l) (sym (last_more count n))

length-last_codes : (count n : ℕ) → length (last_codes count n) ≡ count
unfolding last_codes
length-last_codes zero n = refl
length-last_codes (suc count) n = ap suc (length-last_codes count n)

-- A number that has a one before the last digits of another, of which there are at most nine.
pub behind_one : (power count n last : ℕ) → power ≡ 10 ^ count → power ≤ 10 ^ 9 → 1 ≤ power → last ≡ n % power
    → (decimal (power + last) ≡ 49 ∷ last_codes count n) × (length (decimal (power + last)) ≡ count + 1)
behind_one power count n last is few some rest =
    let below : n % power < power = omega (arith, some) in
    let small : 10 ^ count + n % 10 ^ count < 2 ^ 64 = rw (← is) (omega (arith, few, below)) in
    let whole : decimal (power + last) ≡ 49 ∷ last_codes count n =
    ap (λ (m : ℕ). decimal (power + m)) rest ∙ ap (λ (m : ℕ). decimal (m + n % m)) is ∙ one_before count n small in
    (whole, ap (λ (l : List ℕ). length l) whole ∙ omega (arith, length-last_codes count n))

-- ---- the byte in front of digits

-- The one is within the memory.
pub one_within : (old mid : List ℕ) (at count n m end start : ℕ) → decimal m ≡ 49 ∷ last_codes count n → length (decimal m) ≡ count + 1 → start + length (decimal m) ≡ end → end ≡ at + 1 + count
    → drop start mid ≡ decimal m ++ drop end old → (start ≡ at) × (drop at mid ≡ 49 ∷ (last_codes count n ++ drop end old)) × (at < length mid)
one_within old mid at count n m end start digits long begins ends written =
    let same : start ≡ at = omega (arith, long, begins, ends) in
    let is : drop at mid ≡ 49 ∷ (last_codes count n ++ drop end old) = ap (λ (i : ℕ). drop i mid) (sym same) ∙ written ∙ ap (λ (l : List ℕ). l ++ drop end old) digits in
    let some : length (drop at mid) ≡ suc (length (last_codes count n ++ drop end old)) = ap (λ (l : List ℕ). length l) is in
    (same, is, omega (arith, some, length-drop at mid))

-- The byte stands in its place.
pub byte_placed : (old mid : List ℕ) (at byte count n m end start : ℕ) → decimal m ≡ 49 ∷ last_codes count n → length (decimal m) ≡ count + 1 → start + length (decimal m) ≡ end → end ≡ at + 1 + count
    → end ≤ length old → drop start mid ≡ decimal m ++ drop end old → take start mid ≡ take start old → Placed old (set mid at byte) at (byte ∷ last_codes count n) end
byte_placed old mid at byte count n m end start digits long begins ends fits written before =
    let one = one_within old mid at count n m end start digits long begins ends written in
    let behind : drop (at + 1) mid ≡ last_codes count n ++ drop end old = sym (drop-drop 1 at mid) ∙ ap (λ (l : List ℕ). drop 1 l) one.1 in
    ending_at old (set mid at byte) (byte ∷ last_codes count n) at end (omega (arith, ends, length-last_codes count n)) fits
    (drop-set mid at byte one.2 ∙ ap (λ (l : List ℕ). byte ∷ l) behind)
    (take-set mid at byte ∙ ap (λ (i : ℕ). take i mid) (sym one.0) ∙ before ∙ ap (λ (i : ℕ). take i old) one.0)

-- A byte in front that is as before isn't one of those that are written.
pub behind_kept : {new xs : List ℕ} {end : ℕ} (old : List ℕ) (at : ℕ) → 1 ≤ at → at ≤ length old → Placed old new (at - 1) (get_or old (at - 1) 0 ∷ xs) end → Placed old new at xs end
behind_kept {new} {xs} {end} old at some within p =
    let byte : ℕ = get_or old (at - 1) 0 in
    let next : at - 1 + 1 ≡ at = omega (arith, some) in
    let front : take at old ≡ take (at - 1) old ++ byte ∷ [] = ap (λ (n : ℕ). take n old) (sym next) ∙ take_more old (at - 1) 0 (omega (arith, some, within)) in
    record {
      bytes = p.bytes ∙ sym (append_assoc (take (at - 1) old) (byte ∷ []) xs) ∙ ap (λ (l : List ℕ). l ++ xs) (sym front);
      moved = omega (arith, p.moved, next);
      len = p.len;
    }

-- ---- groups of nine digits

nines_text-append : (a b : List ℕ) → nines_text (a ++ b) ≡ nines_text a ++ nines_text b
nines_text-append [] b = refl
nines_text-append (group ∷ a) b = ap (λ (l : List ℕ). last_codes 9 group ++ l) (nines_text-append a b) ∙ sym (append_assoc (last_codes 9 group) (nines_text a) (nines_text b))

-- One more group.
pub nines_more : (i : ℕ) (groups : List ℕ) → i < length groups → nines_text (take (i + 1) groups) ≡ nines_text (take i groups) ++ last_codes 9 (get_or groups i 0)
nines_more i groups less =
    ap nines_text (take_more groups i 0 less) ∙ nines_text-append (take i groups) (get_or groups i 0 ∷ [])
    ∙ ap (λ (l : List ℕ). nines_text (take i groups) ++ l) (append-nil (last_codes 9 (get_or groups i 0)))

pub length-nines_text : (groups : List ℕ) → length (nines_text groups) ≡ 9 * length groups
length-nines_text [] = refl
length-nines_text (group ∷ groups) =
    let ih = length-nines_text groups in
    length-append (last_codes 9 group) (nines_text groups) ∙ omega (arith, ih, length-last_codes 9 group)

-- ---- no escape is needed

last_passed : (count n : ℕ) → are_passed (last_codes count n) ≡ true
unfolding last_codes
last_passed zero n = refl
last_passed (suc count) n = and_from _ _ (digit_passed (n / 10 ^ count % 10) (omega arith)) (last_passed count n)

nines_passed : (groups : List ℕ) → are_passed (nines_text groups) ≡ true
nines_passed [] = refl
nines_passed (group ∷ groups) = both_passed (last_codes 9 group) (nines_text groups) (last_passed 9 group) (nines_passed groups)

scale_passed : (scale : ℕ) (groups : List ℕ) (last : ℕ) → are_passed (scale_text scale groups last) ≡ true
unfolding scale_text
scale_passed scale groups last =
    by_test (scale == 0) [] (46 ∷ (nines_text groups ++ last_codes (scale % 9) last)) (λ is. refl)
    (λ is. both_passed (nines_text groups) (last_codes (scale % 9) last) (nines_passed groups) (last_passed (scale % 9) last))

pub plain_decimal : (is_negative : Bool) (first : ℕ) (whole : List ℕ) (scale : ℕ) (part : List ℕ) (last : ℕ) → first < 2 ^ 64
    → (escape (decimal_text is_negative first whole scale part last) ≡ decimal_text is_negative first whole scale part last) × IsUtf8 (decimal_text is_negative first whole scale part last)
unfolding decimal_text
plain_decimal is_negative first whole scale part last small =
    passed_text _ (both_passed (minus is_negative) _ (minus_passed is_negative)
    (both_passed (decimal first) _ (decimal_passed first small) (both_passed (nines_text whole) _ (nines_passed whole) (scale_passed scale part last))))
