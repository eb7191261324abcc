-- Decimal numbers by the numbers of their groups.
use Rattle.std.proofs.Common.{◌≡◌, ◌≢◌, ◌⊎◌, ℕ, zero, suc, ◌+◌, ◌-◌, ◌*◌, ◌/◌, ◌%◌, ◌^◌, ◌<◌, ◌≤◌, Bool, true, false, cond, List, [], ◌∷◌, ◌++◌, length, take, drop, replicate, inl, inr, refl, sym, ap, subst, ◌∙◌, slice_index_or, append_assoc, append-nil, take-add, take-take, take_at, drop_at, arith}
use Rattle.std.specs.Prelude.{◌==◌, not, nat_lt, All}
use Rattle.std.proofs.lemmas.Bool.{and_parts, eqb-true, ltb-true, ne_eqb}
use Rattle.std.proofs.lemmas.List.{drop-drop}
use Rattle.std.proofs.Math.Nat.{pow-le-pow_right}
use Rattle.byteorder.specs.Endian.{big_number}
use Rattle.std.proofs.lemmas.Fmt.{decimal_digit}
use Rattle.std.specs.Fmt.{decimal}
use Rattle.binlog_values.specs.Contents.{digits_len, groups_fit, is_decimal_bytes, magnitude}
use Rattle.binlog_values.specs.Texts.{digits_text, sign_text}
use Rattle.binlog_values.specs.Decimals.{is_negative_decimal, decimal_text}
use Rattle.binlog_values.specs.DecimalGroups.{group_at, group_text, is_begun_by, nines_text, whole_text, part_text, scale_text, whole_len, grouped_text, nines_at, groups_text, point_text, parts_text}
use Rattle.binlog_values.proofs.ShownDigits.{decimal_shown}

-- ---- zeros in front

-- A group of zeros in front is left out.
pub front_step : (count index place first next : ℕ) (s : List ℕ) → index < count → first ≡ 0 → next ≡ group_at place 9 s
    → group_text false 9 first ++ nines_text (count - index) place (is_begun_by false first) s
    ≡ group_text false 9 next ++ nines_text (count - (index + 1)) (place + 4) (is_begun_by false next) s
front_step count index place first next s below none is =
    let left : count - index ≡ suc (count - (index + 1)) = omega arith in
    rw (none, is, left) refl

-- A digit that isn't zero is found.
pub front_found : (left place first : ℕ) (s : List ℕ) → first ≢ 0
    → group_text false 9 first ++ nines_text left place (is_begun_by false first) s ≡ decimal first ++ nines_text left place true s
front_found left place first s some = rw (ne_eqb first 0 some) refl

front_by : (first : ℕ) (b : Bool) → (first == 0) ≡ b → cond b [] (decimal first) ++ cond (not b) [] (48 ∷ []) ≡ decimal first ++ []
front_by first true none =
    let zero_is : first ≡ 0 = eqb-true first 0 none in
    sym (append-nil (decimal first) ∙ ap decimal zero_is ∙ decimal_digit 0 (omega arith))
front_by first false some = refl

-- All groups are zeros, or the last one isn't.
pub front_end : (place first : ℕ) (s : List ℕ)
    → group_text false 9 first ++ nines_text 0 place (is_begun_by false first) s ≡ decimal first ++ nines_text 0 place true s
front_end place first s = front_by first (first == 0) refl

-- ---- the numbers of groups of nine digits

-- One more group.
pub nines_at_more : (i place : ℕ) (s : List ℕ) → nines_at (i + 1) place s ≡ nines_at i place s ++ group_at (place + 4 * i) 9 s ∷ []
nines_at_more zero place s =
    let same : place ≡ place + 4 * 0 = omega arith in
    ap (λ (p : ℕ). group_at p 9 s ∷ []) same
nines_at_more (suc i) place s =
    let more : suc i + 1 ≡ suc (i + 1) = omega arith in
    let same : place + 4 + 4 * i ≡ place + 4 * suc i = omega arith in
    ap (λ (n : ℕ). nines_at n place s) more
    ∙ ap (λ (l : List ℕ). group_at place 9 s ∷ l) (nines_at_more i (place + 4) s)
    ∙ ap (λ (p : ℕ). group_at place 9 s ∷ (nines_at i (place + 4) s ++ group_at p 9 s ∷ [])) same

length-nines_at : (count place : ℕ) (s : List ℕ) → length (nines_at count place s) ≡ count
length-nines_at zero place s = refl
length-nines_at (suc count) place s = ap suc (length-nines_at count (place + 4) s)

-- Groups, and those behind them.
nines_at_split : (a b place : ℕ) (s : List ℕ) → nines_at (a + b) place s ≡ nines_at a place s ++ nines_at b (place + 4 * a) s
nines_at_split zero b place s =
    let none : 0 + b ≡ b = omega arith in
    let same : place ≡ place + 4 * 0 = omega arith in
    ap (λ (n : ℕ). nines_at n place s) none ∙ ap (λ (p : ℕ). nines_at b p s) same
nines_at_split (suc a) b place s =
    let more : suc a + b ≡ suc (a + b) = omega arith in
    let same : place + 4 + 4 * a ≡ place + 4 * suc a = omega arith in
    ap (λ (n : ℕ). nines_at n place s) more
    ∙ ap (λ (l : List ℕ). group_at place 9 s ∷ l) (nines_at_split a b (place + 4) s)
    ∙ ap (λ (p : ℕ). group_at place 9 s ∷ (nines_at a (place + 4) s ++ nines_at b p s)) same

-- ---- their text

begun_groups : (count place : ℕ) (s : List ℕ) → nines_text count place true s ≡ groups_text (nines_at count place s)
begun_groups zero place s = refl
begun_groups (suc count) place s = ap (λ (l : List ℕ). digits_text 9 (group_at place 9 s) ++ l) (begun_groups count (place + 4) s)

part_groups : (count place tail : ℕ) (s : List ℕ)
    → part_text count place tail s ≡ groups_text (nines_at count place s) ++ digits_text tail (group_at (place + 4 * count) tail s)
part_groups zero place tail s =
    let same : place ≡ place + 4 * 0 = omega arith in
    ap (λ (p : ℕ). digits_text tail (group_at p tail s)) same
part_groups (suc count) place tail s =
    let group : List ℕ = digits_text 9 (group_at place 9 s) in
    let others : List ℕ = groups_text (nines_at count (place + 4) s) in
    let same : place + 4 + 4 * count ≡ place + 4 * suc count = omega arith in
    ap (λ (l : List ℕ). group ++ l) (part_groups count (place + 4) tail s)
    ∙ ap (λ (p : ℕ). group ++ (others ++ digits_text tail (group_at p tail s))) same
    ∙ sym (append_assoc group others (digits_text tail (group_at (place + 4 * suc count) tail s)))

-- The groups of a decimal number are its text. Before the point are `many` groups of nine digits from the place `start`, of which
-- `left` from `place` are left behind the first one that isn't zero.
pub groups_shown : (precision scale : ℕ) (s : List ℕ) (number start many first place left count last : ℕ) (nines : List ℕ) → scale ≤ precision → is_decimal_bytes precision scale s ≡ true
    → number ≡ group_at 0 ((precision - scale) % 9) (magnitude s) → start ≡ digits_len ((precision - scale) % 9) → many ≡ (precision - scale) / 9 → count ≡ scale / 9
    → decimal first ++ nines_text left place true (magnitude s) ≡ group_text false 9 number ++ nines_text many start (is_begun_by false number) (magnitude s)
    → place + 4 * left ≡ start + 4 * many
    → take (left + count) nines ≡ nines_at (left + count) place (magnitude s)
    → last ≡ group_at (place + 4 * (left + count)) (scale % 9) (magnitude s)
    → parts_text (is_negative_decimal s) first (take left nines) scale (take count (drop left nines)) last ≡ decimal_text precision scale s
unfolding whole_text scale_text grouped_text point_text parts_text
groups_shown precision scale s number start many first place left count last nines within fits number_is start_is many_is count_is shown moved read last_is =
    let m : List ℕ = magnitude s in
    let sign : List ℕ = sign_text (is_negative_decimal s) in
    let before : ℕ = precision - scale in
    let tail : ℕ = scale % 9 in
    let whole : List ℕ = nines_at left place m in
    let part : List ℕ = nines_at count (place + 4 * left) m in
    let both : take (left + count) nines ≡ whole ++ part = read ∙ nines_at_split left count place m in
    let taken : take left nines ≡ whole =
    sym (take-take left (left + count) nines (omega arith)) ∙ ap (take left) both ∙ take_at whole part left (length-nines_at left place m) in
    let front : length (take left nines) ≡ left = ap (λ (l : List ℕ). length l) taken ∙ length-nines_at left place m in
    let dropped : take count (drop left nines) ≡ part =
    sym (drop_at (take left nines) (take count (drop left nines)) left front) ∙ ap (drop left) (sym (take-add left count nines) ∙ both) ∙ drop_at whole part left (length-nines_at left place m) in
    let end : place + 4 * (left + count) ≡ place + 4 * left + 4 * count = omega arith in
    let point : place + 4 * left ≡ whole_len before = moved ∙ (λ i. start_is i + 4 * many_is i) in
    let behind : groups_text part ++ digits_text tail last ≡ part_text (scale / 9) (whole_len before) tail m =
    ap (λ (n : ℕ). groups_text part ++ digits_text tail n) (last_is ∙ ap (λ (p : ℕ). group_at p tail m) end) ∙ sym (part_groups count (place + 4 * left) tail m)
    ∙ (λ i. part_text (count_is i) (point i) tail m) in
    let text : decimal first ++ groups_text whole ≡ whole_text before m =
    ap (λ (l : List ℕ). decimal first ++ l) (sym (begun_groups left place m)) ∙ shown
    ∙ (λ i. group_text false 9 (number_is i) ++ nines_text (many_is i) (start_is i) (is_begun_by false (number_is i)) m) in
    let scaled : List ℕ = scale_text scale (whole_len before) m in
    ap (λ (l : List ℕ). sign ++ (decimal first ++ (groups_text l ++ cond (scale == 0) [] (46 ∷ (groups_text (take count (drop left nines)) ++ digits_text tail last))))) taken
    ∙ ap (λ (l : List ℕ). sign ++ (decimal first ++ (groups_text whole ++ cond (scale == 0) [] (46 ∷ (groups_text l ++ digits_text tail last))))) dropped
    ∙ ap (λ (l : List ℕ). sign ++ (decimal first ++ (groups_text whole ++ cond (scale == 0) [] (46 ∷ l)))) behind
    ∙ ap (λ (l : List ℕ). sign ++ l) (sym (append_assoc (decimal first) (groups_text whole) scaled))
    ∙ ap (λ (l : List ℕ). sign ++ (l ++ scaled)) text
    ∙ sym (append_assoc sign (whole_text before m) scaled)
    ∙ decimal_shown precision scale s within fits

-- ---- their ranges

next_fits : (n tail place : ℕ) (s : List ℕ) → groups_fit (replicate (suc n) 9 ++ tail ∷ []) (drop place s) ≡ true
    → groups_fit (replicate n 9 ++ tail ∷ []) (drop (place + 4) s) ≡ true
next_fits n tail place s fits =
    let both = and_parts (nat_lt (big_number 4 (drop place s)) (10 ^ 9)) (groups_fit (replicate n 9 ++ tail ∷ []) (drop 4 (drop place s))) fits in
    rw (← drop-drop 4 place s) both.1

-- Each of so many groups of nine digits is below 10^9.
nine_fits : (n tail place i : ℕ) (s : List ℕ) → groups_fit (replicate n 9 ++ tail ∷ []) (drop place s) ≡ true → i < n → group_at (place + 4 * i) 9 s < 10 ^ 9
nine_fits zero tail place i s fits less = absurd (omega arith)
nine_fits (suc n) tail place zero s fits less =
    let both = and_parts (nat_lt (big_number 4 (drop place s)) (10 ^ 9)) (groups_fit (replicate n 9 ++ tail ∷ []) (drop 4 (drop place s))) fits in
    let same : place ≡ place + 4 * 0 = omega arith in
    subst (λ (p : ℕ). group_at p 9 s < 10 ^ 9) same (ltb-true (group_at place 9 s) (10 ^ 9) both.0)
nine_fits (suc n) tail place (suc i) s fits less =
    let same : place + 4 + 4 * i ≡ place + 4 * suc i = omega arith in
    subst (λ (p : ℕ). group_at p 9 s < 10 ^ 9) same (nine_fits n tail (place + 4) i s (next_fits n tail place s fits) (omega arith))

-- The group behind them is as small as its digits.
tail_fits : (n tail place : ℕ) (s : List ℕ) → groups_fit (replicate n 9 ++ tail ∷ []) (drop place s) ≡ true → group_at (place + 4 * n) tail s < 10 ^ tail
tail_fits zero tail place s fits =
    let both = and_parts (nat_lt (group_at place tail s) (10 ^ tail)) true fits in
    let same : place ≡ place + 4 * 0 = omega arith in
    subst (λ (p : ℕ). group_at p tail s < 10 ^ tail) same (ltb-true (group_at place tail s) (10 ^ tail) both.0)
tail_fits (suc n) tail place s fits =
    let same : place + 4 + 4 * n ≡ place + 4 * suc n = omega arith in
    subst (λ (p : ℕ). group_at p tail s < 10 ^ tail) same (tail_fits n tail (place + 4) s (next_fits n tail place s fits))

nine_of : (n place i d : ℕ) (s : List ℕ) → i < n → slice_index_or (nines_at n place s) i d ≡ group_at (place + 4 * i) 9 s
nine_of zero place i d s less = absurd (omega arith)
nine_of (suc n) place zero d s less =
    let same : place ≡ place + 4 * 0 = omega arith in
    ap (λ (p : ℕ). group_at p 9 s) same
nine_of (suc n) place (suc i) d s less =
    let same : place + 4 + 4 * i ≡ place + 4 * suc i = omega arith in
    nine_of n (place + 4) i d s (omega arith) ∙ ap (λ (p : ℕ). group_at p 9 s) same

all_nines : (n place : ℕ) (s : List ℕ) → ((i : ℕ) → i < n → group_at (place + 4 * i) 9 s < 10 ^ 9) → All (λ group. group < 10 ^ 9) (nines_at n place s)
all_nines n place s each = λ i d less.
    let within : i < n = omega (arith, less, length-nines_at n place s) in
    subst (λ (group : ℕ). group < 10 ^ 9) (sym (nine_of n place i d s within)) (each i within)

-- A group of fewer than nine digits is below 10^9.
few_below : (digits number : ℕ) → digits ≤ 9 → number < 10 ^ digits → number < 10 ^ 9
few_below digits number few less =
    let most : 10 ^ digits ≤ 10 ^ 9 = pow-le-pow_right (omega arith) few in
    omega (arith, less, most)

-- The groups behind the first bytes of a decimal number fit.
behind_fit : (precision scale start many count : ℕ) (s : List ℕ) → is_decimal_bytes precision scale s ≡ true
    → start ≡ digits_len ((precision - scale) % 9) → many ≡ (precision - scale) / 9 → count ≡ scale / 9
    → groups_fit (replicate (many + count) 9 ++ scale % 9 ∷ []) (drop start (magnitude s)) ≡ true
behind_fit precision scale start many count s fits start_is many_is count_is =
    let lead : ℕ = (precision - scale) % 9 in
    let others : List ℕ = replicate ((precision - scale) / 9 + scale / 9) 9 ++ scale % 9 ∷ [] in
    let both = and_parts (nat_lt (big_number (digits_len lead) (magnitude s)) (10 ^ lead)) (groups_fit others (drop (digits_len lead) (magnitude s))) fits in
    rw (start_is, many_is, count_is) both.1

-- The first group of a decimal number is below 10^9.
pub first_small : (precision scale : ℕ) (s : List ℕ) (number start many first place left : ℕ) → is_decimal_bytes precision scale s ≡ true
    → number ≡ group_at 0 ((precision - scale) % 9) (magnitude s) → start ≡ digits_len ((precision - scale) % 9) → many ≡ (precision - scale) / 9
    → place + 4 * left ≡ start + 4 * many → (first ≡ number) ⊎ ((start + 4 ≤ place) × (first ≡ group_at (place - 4) 9 (magnitude s)))
    → first < 10 ^ 9
first_small precision scale s number start many first place left fits number_is start_is many_is moved (inl same) =
    let lead : ℕ = (precision - scale) % 9 in
    let others : List ℕ = replicate ((precision - scale) / 9 + scale / 9) 9 ++ scale % 9 ∷ [] in
    let both = and_parts (nat_lt (group_at 0 lead (magnitude s)) (10 ^ lead)) (groups_fit others (drop (digits_len lead) (magnitude s))) fits in
    let small : group_at 0 lead (magnitude s) < 10 ^ lead = ltb-true (group_at 0 lead (magnitude s)) (10 ^ lead) both.0 in
    rw (same, number_is) (few_below lead (group_at 0 lead (magnitude s)) (omega arith) small)
first_small precision scale s number start many first place left fits number_is start_is many_is moved (inr (behind, same)) =
    let at : start + 4 * (many - left - 1) ≡ place - 4 = omega (arith, moved, behind) in
    let less : many - left - 1 < many + scale / 9 = omega (arith, moved, behind) in
    let small = nine_fits (many + scale / 9) (scale % 9) start (many - left - 1) (magnitude s) (behind_fit precision scale start many (scale / 9) s fits start_is many_is refl) less in
    rw same (subst (λ (p : ℕ). group_at p 9 (magnitude s) < 10 ^ 9) at small)

-- So are those behind it.
pub nines_small : (precision scale : ℕ) (s : List ℕ) (start many place left count : ℕ) (nines : List ℕ) → is_decimal_bytes precision scale s ≡ true
    → start ≡ digits_len ((precision - scale) % 9) → many ≡ (precision - scale) / 9 → count ≡ scale / 9
    → place + 4 * left ≡ start + 4 * many → left ≤ many → take (left + count) nines ≡ nines_at (left + count) place (magnitude s)
    → All (λ group. group < 10 ^ 9) (take (left + count) nines)
nines_small precision scale s start many place left count nines fits start_is many_is count_is moved few read =
    let each : (i : ℕ) → i < left + count → group_at (place + 4 * i) 9 (magnitude s) < 10 ^ 9 = λ i less.
    let same : start + 4 * (many - left + i) ≡ place + 4 * i = omega (arith, moved, few) in
    subst (λ (p : ℕ). group_at p 9 (magnitude s) < 10 ^ 9) same
    (nine_fits (many + count) (scale % 9) start (many - left + i) (magnitude s) (behind_fit precision scale start many count s fits start_is many_is count_is) (omega (arith, few, less))) in
    rw read (all_nines (left + count) place (magnitude s) each)

-- The last group is as small as its digits.
pub last_small : (precision scale : ℕ) (s : List ℕ) (start many place left count last : ℕ) → is_decimal_bytes precision scale s ≡ true
    → start ≡ digits_len ((precision - scale) % 9) → many ≡ (precision - scale) / 9 → count ≡ scale / 9 → place + 4 * left ≡ start + 4 * many
    → last ≡ group_at (place + 4 * (left + count)) (scale % 9) (magnitude s) → last < 10 ^ (scale % 9)
last_small precision scale s start many place left count last fits start_is many_is count_is moved last_is =
    let same : start + 4 * (many + count) ≡ place + 4 * (left + count) = omega (arith, moved) in
    rw last_is (subst (λ (p : ℕ). group_at p (scale % 9) (magnitude s) < 10 ^ (scale % 9)) same
    (tail_fits (many + count) (scale % 9) start (magnitude s) (behind_fit precision scale start many count s fits start_is many_is count_is)))
