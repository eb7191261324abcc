-- From the mask of a vector to bytes that are ASCII and need no escape.
use Rattle.std.proofs.Common.{◌≡◌, ℕ, zero, suc, ◌+◌, ◌-◌, ◌%◌, ◌^◌, ◌<◌, ◌≤◌, nat_lt, Bool, true, false, not, cond, ◌==◌, List, [], ◌∷◌, length, drop, get_or, map, replicate, eqb, ltb, leb, T, ◌&&◌, ◌⊎◌, inl, inr, subst, ap₂, Fits, w8, refl, sym, ap, ◌∙◌, arith, get_or-take, get_or-drop}
use Rattle.std.proofs.lemmas.Bool.{cases_order, or_parts, not-true, eqb-true, ltb-false}
use Rattle.std.proofs.lemmas.Simd.{length-chunk, leading_from_mask_l, chunk-fits, zip2_splat, zip2_splat_left, mask_l-mod}
use Rattle.std.proofs.lemmas.List.{length-map}
use Rattle.std.proofs.lemmas.List.Elements.{All-from_get_or}
use Rattle.std.proofs.lemmas.List.Sums.{prefix_len-le-length}
use Rattle.std.proofs.lemmas.Str.{IsUtf8-from_ascii}
use Rattle.std.proofs.lemmas.Str.Ascii.{IsAscii-from_all}
use Rattle.std.specs.Bool.{OnTrue}
use Rattle.std.specs.Str.{IsAscii, IsUtf8}
use Rattle.std.specs.List.{prefix_len}
use lib.Bits.{bit_or}
use lib.Ieee.Fits.{and_l, and_r}
use lib.Lanes.{Each1, chunk, mask_l, zip2, top}
use Rattle.json.specs.Print.{escape}
use Rattle.json.specs.Run.{is_stop}
use Rattle.json.proofs.Printed.Plain.{escape_on_plain}
use Rattle.json_line.specs.Passed.{is_other, PassedBetween}

-- ---- a mask that is computed lane by lane, compared with a test at each of the 256 bytes

abbrev hit : ℕ → ℕ → ℕ
hit a b = cond (eqb a b) 255 0

abbrev below : ℕ → ℕ → ℕ
below a b = cond (ltb a b) 255 0

abbrev at_most : ℕ → ℕ → ℕ
at_most a b = cond (leb a b) 255 0

zip2-map : (f g : ℕ → ℕ) (xs : List ℕ) → zip2 bit_or (map f xs) (map g xs) ≡ map (λ x. bit_or (f x) (g x)) xs
zip2-map f g [] = refl
zip2-map f g (x ∷ xs) = ap (λ r. bit_or (f x) (g x) ∷ r) (zip2-map f g xs)

either : (f g : ℕ → ℕ) (v : List ℕ) {a b : List ℕ} → a ≡ map f v → b ≡ map g v → zip2 bit_or a b ≡ map (λ x. bit_or (f x) (g x)) v
either f g v p q = ap₂ (zip2 bit_or) p q ∙ zip2-map f g v

abbrev same : Bool → Bool → Bool
same true b = b
same false b = not b

same_is : (a b : Bool) → T (same a b) → a ≡ b
same_is true true h = refl
same_is false false h = refl
same_is true false h = absurd h
same_is false true h = absurd h

abbrev upto : (ℕ → Bool) → ℕ → Bool
upto p zero = true
upto p (suc n) = p n && upto p n

reached : (p : ℕ → Bool) (n i : ℕ) → T (p n) → (i < n → T (p i)) → (i ≡ n) ⊎ ((i < n) ⊎ (n < i)) → i < suc n → T (p i)
reached p n i here front (inl is) below = subst (λ x. T (p x)) (sym is) here
reached p n i here front (inr (inl less)) below = front less
reached p n i here front (inr (inr more)) below = absurd (omega arith)

upto_sound : (p : ℕ → Bool) (n : ℕ) → T (upto p n) → (i : ℕ) → i < n → T (p i)
upto_sound p zero h i below = absurd (omega arith)
upto_sound p (suc n) h i below = reached p n i (and_l (p n) (upto p n) h) (upto_sound p n (and_r (p n) (upto p n) h) i) (cases_order i n) below

each_byte : (f : ℕ → ℕ) (p : ℕ → Bool) → T (upto (λ x. same (top 7 (f x)) (p x)) 256) → (v : List ℕ) → Each1 (Fits w8) v → map (top 7) (map f v) ≡ map p v
each_byte f p all [] fits = refl
each_byte f p all (x ∷ xs) fits = ap₂ (λ a b. a ∷ b) (same_is _ _ (upto_sound (λ y. same (top 7 (f y)) (p y)) 256 all x fits.0.fits)) (each_byte f p all xs fits.1)

masked : (f : ℕ → ℕ) (p : ℕ → Bool) (v z : List ℕ) → length v ≤ 64 → Each1 (Fits w8) v → z ≡ map f v → T (upto (λ x. same (top 7 (f x)) (p x)) 256)
    → mask_l (map (top 7) z) % 2 ^ 64 ≡ mask_l (map p v)
masked f p v z short fits e all =
    ap (λ l. mask_l l % 2 ^ 64) (ap (map (top 7)) e ∙ each_byte f p all v fits) ∙ mask_l-mod (map p v) 64 (omega (arith, length-map v p))

-- ---- bytes that pass the test

abbrev passes : ℕ → Bool
passes byte = not (is_other byte)

all_byte : (p : Bool) (n l : ℕ) → n ≤ l → cond p (1 + n) 0 ≡ suc l → (p ≡ true) × (n ≡ l)
all_byte true n l h e = (refl, omega arith)
all_byte false n l h e = absurd (omega arith)

all_passed : (xs : List ℕ) → prefix_len passes xs ≡ length xs → PassedBetween xs 0 (length xs)
all_passed [] e k p q = absurd (omega arith)
all_passed (x ∷ xs) e zero p q = (all_byte (passes x) _ (length xs) (prefix_len-le-length passes xs) e).0
all_passed (x ∷ xs) e (suc k) p q = all_passed xs (all_byte (passes x) _ (length xs) (prefix_len-le-length passes xs) e).1 k (omega arith) (omega arith)

passed_from_mask : (d : List ℕ) (i n : ℕ) → i + n ≤ length d → mask_l (map is_other (chunk i n d)) ≡ 0 → PassedBetween d i (i + n)
passed_from_mask d i n room none k p q =
    let long = length-chunk i n d room in
    let back : i + (k - i) ≡ k = omega arith in
    ap passes (sym (get_or-take n (drop i d) (k - i) 0 (omega arith) ∙ get_or-drop i d (k - i) 0 ∙ ap (λ j. get_or d j 0) back))
    ∙ all_passed (chunk i n d) (leading_from_mask_l is_other (chunk i n d) none) (k - i) (omega arith) (omega arith)

on_true : (b : Bool) (P : Type 0) → (b ≡ true → P) → OnTrue b P
on_true true P f = f refl
on_true false P f = tt

-- The four tests of a vector of n lanes, as in the code.
pub passed_from_lanes : (d : List ℕ) (i n : ℕ) → i + n ≤ length d → n ≤ 64 → ((k : ℕ) → Fits w8 (get_or d k 0))
    → OnTrue (mask_l (map (top 7) (zip2 bit_or (zip2 bit_or (zip2 bit_or (zip2 hit (chunk i n d) (replicate n 34)) (zip2 hit (chunk i n d) (replicate n 92))) (zip2 below (chunk i n d) (replicate n 32))) (zip2 at_most (replicate n 128) (chunk i n d)))) % 2 ^ 64 == 0)
    (PassedBetween d i (i + n))
passed_from_lanes d i n room few fits =
    let v = chunk i n d in
    let long = length-chunk i n d room in
    let stops = either _ _ v (either _ _ v (zip2_splat hit v n 34 long) (zip2_splat hit v n 92 long)) (zip2_splat below v n 32 long) in
    let mask = masked _ is_other v _ (omega arith) (chunk-fits w8 i n d fits) (either _ _ v stops (zip2_splat_left at_most 128 n v long)) tt in
    on_true _ _ (λ e. passed_from_mask d i n room (sym mask ∙ eqb-true _ 0 e))

passed_parts : (byte : ℕ) → not (is_other byte) ≡ true → (is_stop byte ≡ false) × (nat_lt 127 byte ≡ false)
passed_parts byte passed = or_parts (is_stop byte) (nat_lt 127 byte) (not-true _ passed)

pub as_it_is : (b : Bool) (d : List ℕ) → OnTrue b (PassedBetween d 0 (length d)) → OnTrue b (escape d ≡ d)
as_it_is true d passed = escape_on_plain true d (λ k from to. ap not (passed_parts (get_or d k 0) (passed k from to)).0)
as_it_is false d passed = tt

pub is_ascii : (b : Bool) (d : List ℕ) → OnTrue b (PassedBetween d 0 (length d)) → OnTrue b (IsAscii d)
is_ascii true d passed = IsAscii-from_all d (All-from_get_or (λ x. x < 128) d 0 (λ k within. omega (arith, ltb-false 127 (get_or d k 0) (passed_parts (get_or d k 0) (passed k (omega arith) within)).1)))
is_ascii false d passed = tt

pub is_text : (b : Bool) (d : List ℕ) → OnTrue b (PassedBetween d 0 (length d)) → OnTrue b (IsUtf8 d)
is_text true d passed = IsUtf8-from_ascii d (is_ascii true d passed)
is_text false d passed = tt
